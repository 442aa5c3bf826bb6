-- What stands after a mark, and the steps of reading that did not fail.
use Rattle.std.proofs.Common.{◌≡◌, ℕ, Bool, true, false, cond, eqb, List, [], ◌∷◌, ◌++◌, Option, Some, None, Bor, refl, sym, ap, ◌∙◌, arith}
use Rattle.std.specs.Prelude.{MatchOption, is_some}
use Rattle.std.specs.Option.{ok_or}
use Rattle.std.specs.Str.Pattern.{FindsTextPrefix, StripsPrefix}
use Rattle.std.proofs.lemmas.Bool.{eqb-true}
use Rattle.std.proofs.lemmas.Option.{same_Some}
use Rattle.std.proofs.lemmas.Slice.Eq.{slice_eq-Decides}
use Rattle.std.proofs.lemmas.Bool.Decides.{Decides-eqb}
use Rattle.std.specs.Str.{bytes_eq}
use Rattle.lg_circ.specs.declared.fault.CircFault.TheVariants.{NotProject}
use Rattle.lg_circ.specs.Meaning.{◌>>=◌}
use Rattle.lg_circ.specs.Reading.{Gives, now_of, after_mark}

-- the value of a step that did not fail
pub bind_some : {A B : Type 0} (o : Option A) (f : A → Option B) (y : B) → (o >>= f) ≡ Some y → (x : A) × (o ≡ Some x) × (f x ≡ Some y)
bind_some None f y e = absurd cc
bind_some (Some x) f y e = (x, refl, e)

-- a test that did not fail
pub guard_some : {A : Type 0} (b : Bool) (o : Option A) (y : A) → cond b o None ≡ Some y → (b ≡ true) × (o ≡ Some y)
guard_some true o y e = (refl, e)
guard_some false o y e = absurd cc

-- what is never something is nothing
pub none_from : {A : Type 0} (o : Option A) → ((x : A) → o ≡ Some x → ⊥) → o ≡ None
none_from None h = refl
none_from (Some x) h = absurd (h x refl)

pub after_mark_takes : (mark bytes rest : List ℕ) → after_mark mark bytes ≡ Some rest → bytes ≡ mark ++ rest
after_mark_takes [] bytes rest e = same_Some bytes rest e
after_mark_takes (m ∷ mark) [] rest e = absurd cc
after_mark_takes (m ∷ mark) (c ∷ cs) rest e =
    let g = guard_some (eqb c m) (after_mark mark cs) rest e in
    let same : c ≡ m = eqb-true c m g.0 in
    let others : cs ≡ mark ++ rest = after_mark_takes mark cs rest g.1 in
    cc

pub after_mark_again : (mark rest : List ℕ) → after_mark mark (mark ++ rest) ≡ Some rest
after_mark_again [] rest = refl
after_mark_again (m ∷ mark) rest = let e : eqb m m ≡ true = grind arith in rw e (after_mark_again mark rest)

pub strip_gives : (mark s : List ℕ) (r : Option (Bor (List ℕ))) → MatchOption r (FindsTextPrefix mark s None) (λ x. StripsPrefix (FindsTextPrefix mark) s x.now) → Gives (λ x. x.now) (ok_or r NotProject) (after_mark mark s)
strip_gives mark s None h = none_from (after_mark mark s) (λ rest e. h rest (after_mark_takes mark s rest e))
strip_gives mark s (Some x) h =
    let parts : s ≡ mark ++ x.now = h.1.1 ∙ ap (λ (t : List ℕ). mark ++ t) (sym h.2) in
    ap (after_mark mark) parts ∙ after_mark_again mark x.now

pub strip_tests : (mark s : List ℕ) (r : Option (Bor (List ℕ))) → MatchOption r (FindsTextPrefix mark s None) (λ x. StripsPrefix (FindsTextPrefix mark) s x.now) → is_some r ≡ is_some (after_mark mark s)
strip_tests mark s None h = sym (ap (λ (o : Option (List ℕ)). is_some o) (strip_gives mark s None h))
strip_tests mark s (Some x) h = sym (ap (λ (o : Option (List ℕ)). is_some o) (strip_gives mark s (Some x) h))

-- texts that are equal are the same
pub same_bytes : (xs ys : List ℕ) → bytes_eq xs ys ≡ true → xs ≡ ys
same_bytes xs ys e = (slice_eq-Decides Decides-eqb xs ys (bytes_eq xs ys) refl).0 e

pub bytes_same : (xs ys : List ℕ) → xs ≡ ys → bytes_eq xs ys ≡ true
bytes_same xs ys e = (slice_eq-Decides Decides-eqb xs ys (bytes_eq xs ys) refl).1 e

pub strip_now : (mark s : List ℕ) (r : Option (Bor (List ℕ))) → MatchOption r (FindsTextPrefix mark s None) (λ x. StripsPrefix (FindsTextPrefix mark) s x.now) → now_of r ≡ after_mark mark s
strip_now mark s None h = sym (strip_gives mark s None h)
strip_now mark s (Some x) h = sym (strip_gives mark s (Some x) h)
