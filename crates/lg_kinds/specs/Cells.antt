-- The five fields of a record of a port table, in turn.
use Rattle.std.specs.Prelude.{ℕ, List, [], ◌∷◌}
use Rattle.lg_kinds.specs.declared.cells.Cells.{Cells}

-- the fields as a list
abbrev pub cells : Cells → List (List ℕ)
cells c = c.word.now ∷ c.name.now ∷ c.item.now ∷ c.a.now ∷ c.b.now ∷ []
