-- Two searches with the same fields are the same.
use Rattle.std.proofs.Common.{◌≡◌, ℕ, Bool, List}
use Rattle.lg_graph.specs.declared.groups.Group.{Group}
use Rattle.lg_graph.specs.declared.search.Place.{Place}
use Rattle.lg_graph.specs.declared.search.Search.{Search}

of_fields : List Place → List ℕ → List Group → List ℕ → List ℕ → List Bool → Search
of_fields places path groups arrows order cyclic = record { places = places; path = path; groups = groups; arrows = arrows; order = order; cyclic = cyclic }

same_fields : {a b : List Place} {c d : List ℕ} {e f : List Group} {g h i j : List ℕ} {k l : List Bool} → a ≡ b → c ≡ d → e ≡ f → g ≡ h → i ≡ j → k ≡ l
    → of_fields a c e g i k ≡ of_fields b d f h j l
same_fields p q r s t u = cc

pub same_search : (s t : Search) → s.places ≡ t.places → s.path ≡ t.path → s.groups ≡ t.groups → s.arrows ≡ t.arrows → s.order ≡ t.order → s.cyclic ≡ t.cyclic → s ≡ t
unfolding of_fields
same_search s t places path groups arrows order cyclic =
    let e : of_fields s.places s.path s.groups s.arrows s.order s.cyclic ≡ of_fields t.places t.path t.groups t.arrows t.order t.cyclic =
    same_fields places path groups arrows order cyclic in
    e
