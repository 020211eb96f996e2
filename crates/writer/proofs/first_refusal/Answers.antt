-- `writer::first_refusal` meets its contract. Each return is the law for the checks that passed before it.
use mathlib.Core.Path.{sym, ◌∙◌}
use Rattle.writer_records.specs.Handed.{handed}
use Rattle.writer_checks.proofs.CheckedLaws.{counts_few}
use Rattle.writer.proofs.RefusalLaws.{refused_lengths_lem, refused_settings_lem, refused_counts_lem, refused_own_links_lem, refused_coordinates_lem, refused_links_lem, refused_destination_lem, refused_none}
use Rattle.writer.proofs.first_refusal.Goals as goal

pub returns-then-not-slices_fit : goal.returns-then-not-slices_fit
returns-then-not-slices_fit c = refused_lengths_lem (handed c.args.drawing.now) c.args.room _ c.slices_fit.ensures c.if-not-slices_fit.true

pub returns-then-not-settings_fit : goal.returns-then-not-settings_fit
returns-then-not-settings_fit c = refused_settings_lem (handed c.args.drawing.now) c.args.room _ c.slices_fit.ensures c.if-not-slices_fit.false _ c.settings_fit.ensures c.if-not-settings_fit.true

pub returns-then-not-counts_fit : goal.returns-then-not-counts_fit
returns-then-not-counts_fit c = refused_counts_lem (handed c.args.drawing.now) c.args.room _ c.slices_fit.ensures c.if-not-slices_fit.false _ c.settings_fit.ensures c.if-not-settings_fit.false _ c.counts_fit.ensures c.if-not-counts_fit.true

pub returns-then-not-own_links_fit : goal.returns-then-not-own_links_fit
returns-then-not-own_links_fit c = refused_own_links_lem (handed c.args.drawing.now) c.args.room _ c.slices_fit.ensures c.if-not-slices_fit.false _ c.settings_fit.ensures c.if-not-settings_fit.false _ c.counts_fit.ensures c.if-not-counts_fit.false _ c.own_links_fit.ensures c.if-not-own_links_fit.true

pub returns-then-not-coordinates_fit : goal.returns-then-not-coordinates_fit
returns-then-not-coordinates_fit c = refused_coordinates_lem (handed c.args.drawing.now) c.args.room _ c.slices_fit.ensures c.if-not-slices_fit.false _ c.settings_fit.ensures c.if-not-settings_fit.false _ c.counts_fit.ensures c.if-not-counts_fit.false _ c.own_links_fit.ensures c.if-not-own_links_fit.false _ c.coordinates_fit.ensures c.if-not-coordinates_fit.true

pub returns-then-not-links_in : goal.returns-then-not-links_in
returns-then-not-links_in c = refused_links_lem (handed c.args.drawing.now) c.args.room _ c.slices_fit.ensures c.if-not-slices_fit.false _ c.settings_fit.ensures c.if-not-settings_fit.false _ c.counts_fit.ensures c.if-not-counts_fit.false _ c.own_links_fit.ensures c.if-not-own_links_fit.false _ c.coordinates_fit.ensures c.if-not-coordinates_fit.false _ c.links_in.ensures c.if-not-links_in.true

pub file_size-requires : goal.file_size-requires
file_size-requires c = counts_few (handed c.args.drawing.now) (sym c.counts_fit.ensures ∙ c.if-not-counts_fit.false)

pub returns-then-room-file_size : goal.returns-then-room-file_size
returns-then-room-file_size c = refused_destination_lem (handed c.args.drawing.now) c.args.room _ c.slices_fit.ensures c.if-not-slices_fit.false _ c.settings_fit.ensures c.if-not-settings_fit.false _ c.counts_fit.ensures c.if-not-counts_fit.false _ c.own_links_fit.ensures c.if-not-own_links_fit.false _ c.coordinates_fit.ensures c.if-not-coordinates_fit.false _ c.links_in.ensures c.if-not-links_in.false _ c.file_size.ensures c.if-room-file_size.true

pub returns : goal.returns
returns c = refused_none (handed c.args.drawing.now) c.args.room _ c.slices_fit.ensures c.if-not-slices_fit.false _ c.settings_fit.ensures c.if-not-settings_fit.false _ c.counts_fit.ensures c.if-not-counts_fit.false _ c.own_links_fit.ensures c.if-not-own_links_fit.false _ c.coordinates_fit.ensures c.if-not-coordinates_fit.false _ c.links_in.ensures c.if-not-links_in.false _ c.file_size.ensures c.if-room-file_size.false
