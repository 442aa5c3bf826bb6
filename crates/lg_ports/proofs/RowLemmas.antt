-- The row that was found.
use Rattle.std.proofs.Common.{◌≡◌, ◌∙◌, sym, ap, Option, Some}
use Rattle.std.specs.Prelude.{option_map}
use Rattle.std.specs.Option.{option_and_then}

-- what follows from what was found, as the definition sees it
pub follows_found : {A B C : Type 0} (f : A → B) (g : B → Option C) (o : Option A) (r : Option B) (x : A) → option_map f o ≡ r → o ≡ Some x → g (f x) ≡ option_and_then g r
follows_found f g o r x e s = sym (ap (option_and_then g) (sym e ∙ ap (option_map f) s))
