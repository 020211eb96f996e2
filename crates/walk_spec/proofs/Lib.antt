-- Laws of the definitions in specs/.
pub mod Circuit
pub mod EulerExamples
pub mod EulerLine
pub mod Examples
pub mod Free
pub mod Line
pub mod Next
pub mod Orient
pub mod Start
pub mod Traced
pub mod Trail
pub mod VirtualStep
