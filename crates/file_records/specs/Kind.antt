-- The kind of a record by the number in its head.
use Rattle.std.specs.Prelude.{ℕ, cond, eqb}
use Rattle.limits.specs.Limits.{kind_settings, kind_line, kind_link}
use Rattle.file_records.specs.declared.Kind.{Kind}
use Rattle.file_records.specs.declared.Kind.TheVariants as kind

abbrev pub kind_of : ℕ → Kind
kind_of number = cond (eqb number kind_settings) kind.Settings (cond (eqb number kind_line) kind.Line (cond (eqb number kind_link) kind.Link kind.Other))
