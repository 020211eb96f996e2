-- `file::first_refusal` meets its contract: each return is the law for the checks that passed before it.
use mathlib.Core.Path.{◌≡◌, sym, ◌∙◌}
use mathlib.Core.Bool.{true, false}
use Rattle.drawing_spec.specs.Read.{is_cut, records_of, kinds_fit, lengths_fit}
use Rattle.file.proofs.ReadingLaws.{refused_bytes_lem, refused_cut_lem, refused_kinds_lem, refused_lengths_lem, refused_settings_lem, refused_counts_lem, refused_own_links_lem, refused_coordinates_lem, refused_none}
use Rattle.file.proofs.Whole.{order_tells, lengths_tell, counts_tell, settings_tell, own_links_tell}
use Rattle.file.proofs.first_refusal.Goals as goal

pub returns-then-many_bytes : goal.returns-then-many_bytes
returns-then-many_bytes c = refused_bytes_lem c.args.file.now c.if-many_bytes.true

pub returns-then-is_cut : goal.returns-then-is_cut
returns-then-is_cut c =
    let file = c.args.file.now in
    let small = c.if-many_bytes.false in
    refused_cut_lem file small (sym c.is_cut.ensures ∙ c.if-is_cut.true)

pub tally_of-t-requires : goal.tally_of-t-requires
tally_of-t-requires c = (c.if-many_bytes.false, sym c.is_cut.ensures ∙ c.if-is_cut.false)

pub returns-then-not-order_fits : goal.returns-then-not-order_fits
returns-then-not-order_fits c =
    let file = c.args.file.now in
    let small = c.if-many_bytes.false in
    let is_whole : is_cut file ≡ false = sym c.is_cut.ensures ∙ c.if-is_cut.false in
    refused_kinds_lem file small is_whole (order_tells (records_of file) c.tally_of-t.result c.tally_of-t.ensures _ false c.order_fits.ensures (c.if-not-order_fits.true))

pub returns-then-not-t : goal.returns-then-not-t
returns-then-not-t c =
    let file = c.args.file.now in
    let small = c.if-many_bytes.false in
    let is_whole : is_cut file ≡ false = sym c.is_cut.ensures ∙ c.if-is_cut.false in
    let in_order : kinds_fit (records_of file) ≡ true = order_tells (records_of file) c.tally_of-t.result c.tally_of-t.ensures _ true c.order_fits.ensures (c.if-not-order_fits.false) in
    refused_lengths_lem file small is_whole in_order (lengths_tell (records_of file) c.tally_of-t.result c.tally_of-t.ensures false (c.if-not-t.true))

pub returns-then-not-settings_fit : goal.returns-then-not-settings_fit
returns-then-not-settings_fit c =
    let file = c.args.file.now in
    let small = c.if-many_bytes.false in
    let is_whole : is_cut file ≡ false = sym c.is_cut.ensures ∙ c.if-is_cut.false in
    let in_order : kinds_fit (records_of file) ≡ true = order_tells (records_of file) c.tally_of-t.result c.tally_of-t.ensures _ true c.order_fits.ensures (c.if-not-order_fits.false) in
    let long : lengths_fit (records_of file) ≡ true = lengths_tell (records_of file) c.tally_of-t.result c.tally_of-t.ensures true (c.if-not-t.false) in
    refused_settings_lem file small is_whole in_order long (settings_tell file is_whole in_order long c.settings_of-settings.result c.settings_of-settings.ensures _ false c.settings_fit.ensures (c.if-not-settings_fit.true))

pub returns-then-not-counts_fit : goal.returns-then-not-counts_fit
returns-then-not-counts_fit c =
    let file = c.args.file.now in
    let small = c.if-many_bytes.false in
    let is_whole : is_cut file ≡ false = sym c.is_cut.ensures ∙ c.if-is_cut.false in
    let in_order : kinds_fit (records_of file) ≡ true = order_tells (records_of file) c.tally_of-t.result c.tally_of-t.ensures _ true c.order_fits.ensures (c.if-not-order_fits.false) in
    let long : lengths_fit (records_of file) ≡ true = lengths_tell (records_of file) c.tally_of-t.result c.tally_of-t.ensures true (c.if-not-t.false) in
    let settings = settings_tell file is_whole in_order long c.settings_of-settings.result c.settings_of-settings.ensures _ true c.settings_fit.ensures (c.if-not-settings_fit.false) in
    refused_counts_lem file small is_whole in_order long settings (counts_tell (records_of file) c.tally_of-t.result c.tally_of-t.ensures _ false c.counts_fit.ensures (c.if-not-counts_fit.true))

pub returns-then-not-own_links_fit : goal.returns-then-not-own_links_fit
returns-then-not-own_links_fit c =
    let file = c.args.file.now in
    let small = c.if-many_bytes.false in
    let is_whole : is_cut file ≡ false = sym c.is_cut.ensures ∙ c.if-is_cut.false in
    let in_order : kinds_fit (records_of file) ≡ true = order_tells (records_of file) c.tally_of-t.result c.tally_of-t.ensures _ true c.order_fits.ensures (c.if-not-order_fits.false) in
    let long : lengths_fit (records_of file) ≡ true = lengths_tell (records_of file) c.tally_of-t.result c.tally_of-t.ensures true (c.if-not-t.false) in
    let settings = settings_tell file is_whole in_order long c.settings_of-settings.result c.settings_of-settings.ensures _ true c.settings_fit.ensures (c.if-not-settings_fit.false) in
    let few = counts_tell (records_of file) c.tally_of-t.result c.tally_of-t.ensures _ true c.counts_fit.ensures (c.if-not-counts_fit.false) in
    refused_own_links_lem file small is_whole in_order long settings few (own_links_tell file is_whole in_order long c.settings_of-settings.result c.settings_of-settings.ensures c.tally_of-t.result c.tally_of-t.ensures _ false c.own_links_fit.ensures (c.if-not-own_links_fit.true))

pub coordinates_fit-requires : goal.coordinates_fit-requires
coordinates_fit-requires c =
    let file = c.args.file.now in
    let is_whole : is_cut file ≡ false = sym c.is_cut.ensures ∙ c.if-is_cut.false in
    let in_order : kinds_fit (records_of file) ≡ true = order_tells (records_of file) c.tally_of-t.result c.tally_of-t.ensures _ true c.order_fits.ensures (c.if-not-order_fits.false) in
    let long : lengths_fit (records_of file) ≡ true = lengths_tell (records_of file) c.tally_of-t.result c.tally_of-t.ensures true (c.if-not-t.false) in
    (is_whole, long)

pub returns-then-not-coordinates_fit : goal.returns-then-not-coordinates_fit
returns-then-not-coordinates_fit c =
    let file = c.args.file.now in
    let small = c.if-many_bytes.false in
    let is_whole : is_cut file ≡ false = sym c.is_cut.ensures ∙ c.if-is_cut.false in
    let in_order : kinds_fit (records_of file) ≡ true = order_tells (records_of file) c.tally_of-t.result c.tally_of-t.ensures _ true c.order_fits.ensures (c.if-not-order_fits.false) in
    let long : lengths_fit (records_of file) ≡ true = lengths_tell (records_of file) c.tally_of-t.result c.tally_of-t.ensures true (c.if-not-t.false) in
    let settings = settings_tell file is_whole in_order long c.settings_of-settings.result c.settings_of-settings.ensures _ true c.settings_fit.ensures (c.if-not-settings_fit.false) in
    let few = counts_tell (records_of file) c.tally_of-t.result c.tally_of-t.ensures _ true c.counts_fit.ensures (c.if-not-counts_fit.false) in
    let own_links = own_links_tell file is_whole in_order long c.settings_of-settings.result c.settings_of-settings.ensures c.tally_of-t.result c.tally_of-t.ensures _ true c.own_links_fit.ensures (c.if-not-own_links_fit.false) in
    refused_coordinates_lem file small is_whole in_order long settings few own_links (sym c.coordinates_fit.ensures ∙ c.if-not-coordinates_fit.true)

pub returns : goal.returns
returns c =
    let file = c.args.file.now in
    let small = c.if-many_bytes.false in
    let is_whole : is_cut file ≡ false = sym c.is_cut.ensures ∙ c.if-is_cut.false in
    let in_order : kinds_fit (records_of file) ≡ true = order_tells (records_of file) c.tally_of-t.result c.tally_of-t.ensures _ true c.order_fits.ensures (c.if-not-order_fits.false) in
    let long : lengths_fit (records_of file) ≡ true = lengths_tell (records_of file) c.tally_of-t.result c.tally_of-t.ensures true (c.if-not-t.false) in
    let settings = settings_tell file is_whole in_order long c.settings_of-settings.result c.settings_of-settings.ensures _ true c.settings_fit.ensures (c.if-not-settings_fit.false) in
    let few = counts_tell (records_of file) c.tally_of-t.result c.tally_of-t.ensures _ true c.counts_fit.ensures (c.if-not-counts_fit.false) in
    let own_links = own_links_tell file is_whole in_order long c.settings_of-settings.result c.settings_of-settings.ensures c.tally_of-t.result c.tally_of-t.ensures _ true c.own_links_fit.ensures (c.if-not-own_links_fit.false) in
    refused_none file small is_whole in_order long settings few own_links (sym c.coordinates_fit.ensures ∙ c.if-not-coordinates_fit.false)
