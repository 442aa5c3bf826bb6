-- How far a sheet reaches, and which limits a project may set.
use Rattle.std.specs.Prelude.{ℕ, nat_le, Bool, true, false, ◌&&◌, IsTrue, Option, Some, None, refl, unsigned_abs}
use Rattle.lg_circ.specs.declared.project.Point.{Point}

-- how many bytes the text of a project has at most
abbrev pub greatest_length : ℕ
greatest_length = 8388608

-- how far a sheet reaches from its origin along each axis
abbrev pub reach : ℕ
reach = 1000000

-- how many busy instants a settling may have where the project says nothing, and at most
abbrev pub usual_limit : ℕ
usual_limit = 1000

abbrev pub greatest_limit : ℕ
greatest_limit = 1000000

-- no coordinate is further from the origin than a sheet reaches
abbrev pub is_on_sheet : Point → Bool
is_on_sheet p = nat_le (unsigned_abs p.x) reach && nat_le (unsigned_abs p.y) reach

-- how many busy instants a project may allow a settling
abbrev pub is_limit : ℕ → Bool
is_limit n = nat_le 1 n && nat_le n greatest_limit

-- what follows from a test that succeeds, and nothing where it fails
abbrev pub given : {A : Type 0} → (test : Bool) → (IsTrue test → A) → Option A
given true made = Some (made refl)
given false made = None
