-- The work that is left once a node is met, and once it is done.
use Rattle.std.proofs.Common.{◌≡◌, ℕ, zero, suc, ◌+◌, ◌<◌, List, [], ◌∷◌, length, get_or, set, refl, ap, arith}
use Rattle.lg_graph.specs.declared.search.Place.{Place}
use Rattle.lg_graph.specs.declared.search.Place.TheVariants.{New, OnPath, Done}
use Rattle.lg_graph.specs.Graph.{Graph}
use Rattle.lg_graph.specs.Search.{work_of}

pub work_of-met : (graph : Graph) (places : List Place) (n a : ℕ) → n < length graph → n < length places → get_or places n New ≡ New
    → work_of graph (set places n (OnPath a)) + (length (get_or graph n []) + 2) ≡ work_of graph places
work_of-met [] places n a inside met e = absurd (omega arith)
work_of-met (arrows ∷ graph) [] n a inside met e = absurd (omega arith)
work_of-met (arrows ∷ graph) (New ∷ places) zero a inside met e = omega arith
work_of-met (arrows ∷ graph) (OnPath b ∷ places) zero a inside met e = absurd (cc)
work_of-met (arrows ∷ graph) (Done i ∷ places) zero a inside met e = absurd (cc)
work_of-met (arrows ∷ graph) (New ∷ places) (suc n) a inside met e = let rest = work_of-met graph places n a (omega arith) (omega arith) e in omega arith
work_of-met (arrows ∷ graph) (OnPath b ∷ places) (suc n) a inside met e = work_of-met graph places n a (omega arith) (omega arith) e
work_of-met (arrows ∷ graph) (Done i ∷ places) (suc n) a inside met e = work_of-met graph places n a (omega arith) (omega arith) e

pub work_of-done : (graph : Graph) (places : List Place) (n a i : ℕ) → get_or places n New ≡ OnPath a → work_of graph (set places n (Done i)) ≡ work_of graph places
work_of-done [] places n a i e = refl
work_of-done (arrows ∷ graph) [] n a i e = refl
work_of-done (arrows ∷ graph) (New ∷ places) zero a i e = absurd (cc)
work_of-done (arrows ∷ graph) (OnPath b ∷ places) zero a i e = refl
work_of-done (arrows ∷ graph) (Done j ∷ places) zero a i e = refl
work_of-done (arrows ∷ graph) (New ∷ places) (suc n) a i e = ap (λ (m : ℕ). length arrows + 2 + m) (work_of-done graph places n a i e)
work_of-done (arrows ∷ graph) (OnPath b ∷ places) (suc n) a i e = work_of-done graph places n a i e
work_of-done (arrows ∷ graph) (Done j ∷ places) (suc n) a i e = work_of-done graph places n a i e
