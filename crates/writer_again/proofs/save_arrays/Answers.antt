-- `writer_again::save_arrays` meets its contract.
use mathlib.Core.Path.{refl, ap, ◌∙◌}
use Rattle.writer_spec.specs.Given.{Given, save_given}
use Rattle.writer_again.specs.Filled.{segments_of, ends_of}
use Rattle.writer_again.proofs.Lent.{sizes_lent, coordinates_lent, links_lent, lent_given}
use Rattle.writer_again.proofs.save_arrays.Goals as goal

pub slice_bounds-given-end : goal.slice_bounds-given-end
slice_bounds-given-end c = sizes_lent c.args.drawing.now c.requires _ c.sizes_of-sizes.ensures

pub slice_bounds-given-end-2 : goal.slice_bounds-given-end-2
slice_bounds-given-end-2 c = coordinates_lent c.args.drawing.now c.requires _ c.coordinates_of-coordinates.ensures

pub slice_bounds-given-end-3 : goal.slice_bounds-given-end-3
slice_bounds-given-end-3 c = links_lent c.args.drawing.now c.requires segments_of (λ e. refl) _ c.segments_of-segments.ensures

pub slice_bounds-given-end-4 : goal.slice_bounds-given-end-4
slice_bounds-given-end-4 c = links_lent c.args.drawing.now c.requires ends_of (λ e. refl) _ c.ends_of-ends.ensures

pub returns : goal.returns
returns c =
    c.save.ensures.saved
    ∙ ap (λ (g : Given). save_given g c.args.destination.now) (lent_given c.args.drawing.now c.requires _ _ _ _ c.sizes_of-sizes.ensures c.coordinates_of-coordinates.ensures c.segments_of-segments.ensures c.ends_of-ends.ensures)
