-- The writer's answer as a struct for other languages, and the settings that they hand in.
use Rattle.std.specs.Prelude.{ℕ}
use Rattle.drawing_spec.specs.Drawing.{Settings}
use Rattle.writer_spec.specs.Save.{Answer, refusal, written}
use Rattle.planner_c.specs.declared.Saved.{Saved}

-- a refusal has its number and 0; a file that is written has the number 0, and how many bytes it has
abbrev pub saved_as : Answer → Saved
saved_as (refusal n) = record { refusal = n; bytes = 0 }
saved_as (written n) = record { refusal = 0; bytes = n }

abbrev pub settings_given : ℕ → ℕ → ℕ → ℕ → Settings
settings_given width height pairing flags = record { width = width; height = height; pairing = pairing; flags = flags }
