-- The first and the last point of a line, as the code holds them.
use Rattle.std.specs.Prelude.{Option, Some, None}
use Rattle.walk_spec.specs.Orient as line
use Rattle.walk_start.specs.Better.{point_from}
use Rattle.walk_orient.specs.declared.EndPoints.{EndPoints}

-- both ends, where there are any
abbrev pub ends_from : line.EndPoints → Option EndPoints
ends_from (line.ends p q) = Some (record { first = point_from p; last = point_from q })
ends_from line.empty = None
