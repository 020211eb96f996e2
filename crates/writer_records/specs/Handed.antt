-- The slices of a drawing that is handed to the writer, as the lists of specs/Given.
use Rattle.writer_spec.specs.Given as lists
use Rattle.file_records.specs.Meaning.{settings_of}
use Rattle.writer_records.specs.declared.Given.{Given}

abbrev pub handed : Given → lists.Given
handed g = lists.given (settings_of g.settings) g.sizes.now g.coordinates.now g.segments.now g.ends.now
