-- The settings in a record read, and what stands where there are none.
use Rattle.file_records.specs.declared.Settings.{Settings}
use Rattle.file_records.specs.declared.Body.{Body}
use Rattle.file_records.specs.declared.Body.TheVariants as body

abbrev pub no_settings : Settings
no_settings = record { width = 0; height = 0; pairing = 0; flags = 0 }

abbrev pub settings_in : Body → Settings
settings_in (body.Settings s) = s
settings_in (body.Line l) = no_settings
settings_in (body.Link e) = no_settings
settings_in body.Other = no_settings
