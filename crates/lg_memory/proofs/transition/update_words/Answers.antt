use Rattle.lg_memory.specs.Shape.{AreWords}
use Rattle.lg_memory.proofs.ShapeLemmas.{AreWords-shift_words}
use Rattle.lg_memory.proofs.transition.update_words.Goals as goal

pub returns-in-Shift-clause-shape : goal.returns-in-Shift-clause-shape
returns-in-Shift-clause-shape c =
    let stages : AreWords c.in-Shift.length c.in-Shift.width c.args.words.now = rw c.in-Shift.is at c.requires.shape in
    let fits = rw c.in-Shift.is at c.requires.inputs.widths in
    rw (c.in-Shift.is, c.shift_words.ensures)
    (AreWords-shift_words c.in-Shift.width c.in-Shift.length c.in-Shift.parallel c.in-Shift.trigger c.args.words.now c.args.inputs.now fits stages)
