-- Each arm is the law for its kind and its length.
use mathlib.Core.Path.{sym, ap, ◌∙◌}
use Rattle.file_records.specs.Kind.{kind_of}
use Rattle.file_records.proofs.Made.{body_settings, no_settings, body_line, no_line, body_link, no_link, no_kind}
use Rattle.file_records.proofs.body_at.Goals as goal

pub returns-in-Settings : goal.returns-in-Settings
returns-in-Settings c = body_settings c.args.file.now c.args.at _ c.size_at-size.ensures _ (sym c.in-Settings.is ∙ (c.from.ensures ∙ ap kind_of c.kind_at.ensures)) c.if-size-eq-SETTINGS_SIZE.true c.settings_at.ensures

pub returns-in-Line : goal.returns-in-Line
returns-in-Line c = body_line c.args.file.now c.args.at _ c.size_at-size.ensures (sym c.in-Line.is ∙ (c.from.ensures ∙ ap kind_of c.kind_at.ensures)) c.if-size-eq0.true

pub returns-in-Link : goal.returns-in-Link
returns-in-Link c = body_link c.args.file.now c.args.at _ c.size_at-size.ensures _ (sym c.in-Link.is ∙ (c.from.ensures ∙ ap kind_of c.kind_at.ensures)) c.if-size-eq-LINK_SIZE.true c.edge_at.ensures

pub returns-in_default : goal.returns-in_default
returns-in_default c = no_settings c.args.file.now c.args.at _ c.size_at-size.ensures (sym c.in-Settings.is ∙ (c.from.ensures ∙ ap kind_of c.kind_at.ensures)) c.if-size-eq-SETTINGS_SIZE.false

pub returns-in_default-2 : goal.returns-in_default-2
returns-in_default-2 c = no_line c.args.file.now c.args.at _ c.size_at-size.ensures (sym c.in-Line.is ∙ (c.from.ensures ∙ ap kind_of c.kind_at.ensures)) c.if-size-eq0.false

pub returns-in_default-3 : goal.returns-in_default-3
returns-in_default-3 c = no_link c.args.file.now c.args.at _ c.size_at-size.ensures (sym c.in-Link.is ∙ (c.from.ensures ∙ ap kind_of c.kind_at.ensures)) c.if-size-eq-LINK_SIZE.false

pub returns-in_default-4 : goal.returns-in_default-4
returns-in_default-4 c = no_kind c.args.file.now c.args.at (sym c.in_default.is ∙ (c.from.ensures ∙ ap kind_of c.kind_at.ensures))
