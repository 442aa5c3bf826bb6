-- Texts that are written one after another.
use Rattle.std.proofs.Common.{◌≡◌, ℕ, zero, suc, ◌<◌, ◌≤◌, Bor, List, [], ◌∷◌, ◌++◌, length, get_or, take, Result, refl, sym, ap, subst, ◌∙◌, append_assoc, arith}
use Rattle.std.specs.Prelude.{IsErr, ⊤}
use Rattle.std.specs.List.{flat_map}
use Rattle.lg_io.specs.Fault.{HasRisen}
use Rattle.lg_io.specs.Sink.{Seen, Took, TookPrefix, Wrote}
use Rattle.lg_io.specs.declared.fault.SinkFault.{SinkFault}
use Rattle.lg_io.proofs.Written.{TookPrefix-more, TookPrefix-after, Wrote-err}

-- the texts, one after another
abbrev said : List (Bor (List ℕ)) → List ℕ
said texts = flat_map (λ (t : Bor (List ℕ)). t.now) texts

-- the texts before one of them, that one, and the rest
split : (texts : List (Bor (List ℕ))) (i : ℕ) (d : Bor (List ℕ)) → i < length texts
    → (rest : List ℕ) × (said texts ≡ (said (take i texts) ++ (get_or texts i d).now) ++ rest)
split [] i d lt = absurd (omega (arith, lt))
split (t ∷ texts) zero d lt = (said texts, refl)
split (t ∷ texts) (suc i) d lt =
    let (rest, e) = split texts i d (omega (arith, lt)) in (
      rest,
      ap (λ (l : List ℕ). t.now ++ l) e ∙ (sym (append_assoc t.now (said (take i texts) ++ (get_or texts i d).now) rest)
          ∙ ap (λ (l : List ℕ). l ++ rest) (sym (append_assoc t.now (said (take i texts)) (get_or texts i d).now))),
    )

-- a write that failed on one of the texts
pub Wrote-some : (r : Result ⊤ SinkFault) (before middle after : Seen) (texts : List (Bor (List ℕ))) (i : ℕ) (d : Bor (List ℕ)) → i < length texts → IsErr r
    → Took before middle (said (take i texts)) → before.faults ≤ middle.faults → TookPrefix middle after (get_or texts i d).now × HasRisen middle.faults after.faults
    → Wrote r before after (said texts)
Wrote-some r before middle after texts i d lt failed first low h =
    let parts = split texts i d lt in
    Wrote-err r before after (said texts) failed
    (subst (TookPrefix before after) (sym parts.1) (TookPrefix-more before after (said (take i texts) ++ (get_or texts i d).now) parts.0
    (TookPrefix-after before middle after (said (take i texts)) (get_or texts i d).now first h.0)))
    (omega (arith, low, h.1))
