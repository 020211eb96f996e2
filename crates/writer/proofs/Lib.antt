-- The conditions one after the other, and the whole answer.
pub mod RefusalLaws
pub mod SaveLaws
