-- The settings that the code's struct stands for.
use Rattle.drawing_spec.specs.Drawing as drawn
use Rattle.file_records.specs.declared.Settings.{Settings}

abbrev pub settings_of : Settings → drawn.Settings
settings_of s = record { width = s.width; height = s.height; pairing = s.pairing; flags = s.flags }
