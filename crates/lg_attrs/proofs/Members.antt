-- A set of texts, by their bytes.
use Rattle.std.proofs.Common.{◌≡◌, ℕ, Bool, true, cond, List, Bor, ap, ◌∙◌}
use Rattle.std.specs.BTreeSet.{BTreeSet, UpdatesBy}
use Rattle.std.specs.Cmp.Lexicographic.{slice_cmp}
use Rattle.std.specs.Ordering.{is_eq, nat_cmp}
use Rattle.std.specs.List.{list_any}
use Rattle.std.specs.Str.{bytes_eq}
use Rattle.std.proofs.lemmas.Map.Text.{is_eq-slice_cmp}

-- the text is in the set
abbrev pub member : BTreeSet (Bor (List ℕ)) → List ℕ → Bool
member names text = list_any (λ (k : Bor (List ℕ)). is_eq (slice_cmp nat_cmp text k.now)) names.keys

pub member_updates : (old new : BTreeSet (Bor (List ℕ))) (key : Bor (List ℕ)) → UpdatesBy (λ x y. slice_cmp nat_cmp x.now y.now) (λ k. slice_cmp nat_cmp key.now k.now) old new true → (q : List ℕ) → member new q ≡ cond (bytes_eq key.now q) true (member old q)
member_updates old new key u q = u.0 (record { ref_ptr = (0, 0); now = q }) ∙ ap (λ (b : Bool). cond b true (member old q)) (is_eq-slice_cmp key.now q)
