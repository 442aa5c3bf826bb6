-- Things one after the other, read by a loop.
use Rattle.std.proofs.Common.{◌≡◌, ℕ, zero, suc, ◌<◌, Bool, true, false, List, [], ◌∷◌, ◌++◌, length, Option, Some, None, refl, sym, ap, ◌∙◌, subst, append_assoc, append-nil, arith}
use Rattle.std.specs.Prelude.{codes}
use Rattle.std.proofs.lemmas.Bool.{cond-true}
use Rattle.std.proofs.lemmas.List.{length-append}
use Rattle.lg_vread.specs.declared.fault.ReadFault.{ReadFault}
use Rattle.lg_vread.specs.declared.fault.ReadFault.TheVariants.{NotSubset, Memory}
use Rattle.lg_vtree.specs.Grammar.{Token}
use Rattle.lg_vread.specs.Reading.{◌>>=◌, is_at, tail, after, many_at, all_at, Fails}
use Rattle.lg_vread.proofs.Steps.{bind_at, many_step, many_stop, IsReader}

-- what is read, behind things that were read before
abbrev pub behind_all : {A : Type 0} → List A → Option (List A × List Token) → Option (List A × List Token)
behind_all xs read = read >>= λ more. Some (xs ++ more.0, more.1)

-- these things were read, and these tokens are left, of what all are to give
pub record IsPartway {A : Type 0} (goes : List Token → Bool) (one : List Token → Option (A × List Token)) (all : Option (List A × List Token)) (xs : List A) (ts : List Token) : Type 0 where
  pub most : ℕ
  pub enough : length ts < most
  pub is : all ≡ behind_all xs (many_at goes one most ts)

behind_more : {A : Type 0} (xs : List A) (x : A) (read : Option (List A × List Token)) → behind_all xs (read >>= λ others. Some (x ∷ others.0, others.1)) ≡ behind_all (xs ++ x ∷ []) read
behind_more xs x None = refl
behind_more xs x (Some more) = ap (λ ys. Some (ys, more.1)) (sym (append_assoc xs (x ∷ []) more.0))

module _ {A : Type 0} (goes : List Token → Bool) (one : List Token → Option (A × List Token)) (all : Option (List A × List Token)) where
  -- before the first of a list
  pub from_here : (xs : List A) (ts : List Token) → all ≡ behind_all xs (all_at goes one ts) → IsPartway goes one all xs ts
  from_here xs ts e = record { most = suc (length ts); enough = omega arith; is = e }

  -- one more
  pub one_more : (xs ys : List A) (ts : List Token) (x : A) (rest : List Token) → IsPartway goes one all xs ts → goes ts ≡ true → one ts ≡ Some (x, rest) → length rest < length ts → ys ≡ xs ++ x ∷ [] → IsPartway goes one all ys rest
  one_more xs ys ts x rest at here first less put = subst (λ zs. IsPartway goes one all zs rest) (sym put) (by_most at.most at.enough at.is)
    where
      by_most : (n : ℕ) → length ts < n → all ≡ behind_all xs (many_at goes one n ts) → IsPartway goes one all (xs ++ x ∷ []) rest
      by_most zero enough is = absurd (omega arith)
      by_most (suc n) enough is = record {
        most = n;
        enough = omega arith;
        is = is
            ∙ ap (behind_all xs) (many_step goes one n ts here ∙ bind_at (one ts) (λ first. many_at goes one n first.1 >>= λ others. Some (first.0 ∷ others.0, others.1)) (x, rest) first)
            ∙ behind_more xs x (many_at goes one n rest);
      }

  -- no more
  pub no_more : (xs : List A) (ts : List Token) → IsPartway goes one all xs ts → goes ts ≡ false → all ≡ Some (xs, ts)
  no_more xs ts at stop = by_most at.most at.enough at.is
    where
      by_most : (n : ℕ) → length ts < n → all ≡ behind_all xs (many_at goes one n ts) → all ≡ Some (xs, ts)
      by_most zero enough is = absurd (omega arith)
      by_most (suc n) enough is = is ∙ ap (behind_all xs) (many_stop goes one n ts stop) ∙ ap (λ ys. Some (ys, ts)) (append-nil xs)

  -- one that is not there
  not_one : (xs : List A) (ts : List Token) → IsPartway goes one all xs ts → goes ts ≡ true → one ts ≡ None → all ≡ None
  not_one xs ts at here none = by_most at.most at.enough at.is
    where
      by_most : (n : ℕ) → length ts < n → all ≡ behind_all xs (many_at goes one n ts) → all ≡ None
      by_most zero enough is = absurd (omega arith)
      by_most (suc n) enough is = is ∙ ap (behind_all xs) (many_step goes one n ts here ∙ ap (λ first. first >>= λ first. many_at goes one n first.1 >>= λ others. Some (first.0 ∷ others.0, others.1)) none)

  pub fails : (xs : List A) (ts : List Token) (fault : ReadFault) → IsPartway goes one all xs ts → goes ts ≡ true → Fails fault (one ts) → Fails fault all
  fails xs ts Memory at here none = tt
  fails xs ts NotSubset at here none = not_one xs ts at here none

-- what is left after something that has a token is shorter
pub left_shorter : {A : Type 0} (one : List Token → Option (A × List Token)) (tokens : A → List Token) (Good : A → Type 0) (Follows : List Token → Type 0) → IsReader one tokens Good Follows → ((x : A) → 0 < length (tokens x)) → (ts : List Token) (x : A) (rest : List Token) → one ts ≡ Some (x, rest) → length rest < length ts
left_shorter one tokens Good Follows is some ts x rest e = omega (arith, some x, ap length (is.takes ts (x, rest) e).0, length-append (tokens x) rest)

-- one after a comma
pub after_comma : {A : Type 0} (inner : List Token → Option (A × List Token)) (ts : List Token) → is_at (codes ",") ts ≡ true → (after (codes ",") ts >>= inner) ≡ inner (tail ts)
after_comma inner ts here = bind_at (after (codes ",") ts) inner (tail ts) (cond-true (is_at (codes ",") ts) (Some (tail ts)) None here)
