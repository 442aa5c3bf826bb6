use Rattle.lg_memory.proofs.image.read_words.Goals as goal

pub returns : goal.returns
returns c = rw (← c.greatest.ensures) c.bounded_words.ensures
