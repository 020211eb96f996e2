-- The lines and the links behind the settings, into arrays that hold nothing.
use Rattle.std.proofs.Common.{subst}
use Rattle.file_drawing.specs.declared.Drawing.{Drawing}
use Rattle.file_drawing.specs.Lines.{arrays, LinesRead}
use Rattle.file.proofs.Whole.{lines_ready, links_ready, drawing_made}
use Rattle.file.proofs.fill.Goals as goal

pub fill_lines-end-requires : goal.fill_lines-end-requires
fill_lines-end-requires c = lines_ready c.args.file.now c.requires.passed c.tally_of-t.result c.tally_of-t.ensures _ c.place_behind-start.ensures

pub read_links-drawing-requires : goal.read_links-drawing-requires
read_links-drawing-requires c = links_ready c.args.file.now c.requires.passed c.tally_of-t.result c.tally_of-t.ensures _ c.place_behind-start.ensures _ _ _ c.fill_lines-end.ensures

pub returns : goal.returns
returns c =
    let read = subst (λ (d : Drawing). LinesRead c.args.file.now c.place_behind-start.result (arrays d.starts d.xs d.ys) (arrays c.fill_lines-end.new.starts c.fill_lines-end.new.xs c.fill_lines-end.new.ys) c.fill_lines-end.result) c.requires.empty c.fill_lines-end.ensures in
    drawing_made c.args.file.now c.requires.passed c.tally_of-t.result c.tally_of-t.ensures _ c.place_behind-start.ensures _ _ _ _ c.settings_of-drawing.ensures read c.read_links-drawing.ensures
