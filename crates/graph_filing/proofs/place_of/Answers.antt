-- What is read of the coordinate's bits is its place.
use Rattle.std.proofs.Common.{◌∙◌}
use Rattle.graph_filing.proofs.Floats.{place_read, float_no_nan}
use Rattle.graph_filing.proofs.place_of.Goals as goal

pub float_to_bits-x : goal.float_to_bits-x
float_to_bits-x c = float_no_nan _ c.requires

pub returns : goal.returns
returns c = c.place_number.ensures ∙ place_read _ c.requires _ c.read_place.ensures
