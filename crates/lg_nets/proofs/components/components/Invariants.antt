use Rattle.std.proofs.Common.{◌≡◌, ℕ, ◌<◌, get_or, vec_len}
use Rattle.lg_nets.specs.Forest.{PointDown, Represents}
use Rattle.lg_nets.proofs.ClassLemmas.{IsForest}
use Rattle.lg_nets.proofs.components.components.Given as goal

abbrev pub invariant-loop-link : goal.invariant-loop-link
invariant-loop-link l = record {
  len : vec_len l.parents ≡ l.count;
  down : PointDown l.parents.items;
  forest : IsForest l.links l.link-index l.parents.items;
}

abbrev pub invariant-loop-number : goal.invariant-loop-number
invariant-loop-number l = record {
  len : vec_len l.parents ≡ l.count;
  down : PointDown l.parents.items;
  labelled : vec_len l.labels ≡ l.number;
  keeps : (rep : ℕ → ℕ) → Represents rep l.initial.parents.items → Represents rep l.parents.items;
  value : (rep : ℕ → ℕ) → Represents rep l.initial.parents.items → (k : ℕ) → k < l.number → get_or l.labels.items k 0 ≡ rep k;
}
