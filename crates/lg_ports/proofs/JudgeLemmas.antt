-- What is judged of rows one after another.
use Rattle.std.proofs.Common.{◌≡◌, ◌∙◌, sym, ap, subst, ℕ, ◌+◌, ◌<◌, ◌≤◌, List, ◌∷◌, ◌++◌, length, get_or, take, drop, map, inl, inr, Option, Some, None, add-one}
use Rattle.std.proofs.Math.Seq.{drop-cons}
use Rattle.std.specs.Prelude.{option_map}
use denote.Bor.{Bor}
use Rattle.std.specs.List.{All}
use Rattle.std.proofs.lemmas.List.{take_all, get_or-map, length-map, take-append-drop}
use Rattle.std.proofs.lemmas.List.Elements.{All-more}
use Rattle.lg_kinds.specs.declared.fault.PartFault.{PartFault}
use Rattle.lg_ports.specs.Given.{Given, count_of, value_of}
use Rattle.lg_ports.specs.Judged.{EntryFits, RowFits, RefusesAt, RefusesIn, Refuses}
use Rattle.lg_ports.specs.Ranges.{InRange}
use Rattle.lg_kinds.specs.Rows.{Attribute, name_at}
use Rattle.lg_kinds.specs.Table.{entry}

-- one row more
pub rows_fit-more : {X Y : Type 0} (P : Y → Type 0) (f : X → Y) (xs : List X) (i : ℕ) (d : X) → i < length xs → All P (take i (map f xs)) → P (f (get_or xs i d)) → All P (take (i + 1) (map f xs))
rows_fit-more P f xs i d inside so_far here =
    let within : i < length (map f xs) = rw (length-map xs f) inside in
    All-more P (map f xs) i (f d) within so_far (subst P (sym (get_or-map f xs i d (f d) inside)) here)

-- all rows
pub rows_fit-all : {X Y : Type 0} (P : Y → Type 0) (f : X → Y) (xs : List X) (ys : List Y) (i : ℕ) → length xs ≤ i → map f xs ≡ ys → All P (take i (map f xs)) → All P ys
rows_fit-all P f xs ys i past e so_far =
    let within : length (map f xs) ≤ i = rw (length-map xs f) past in
    subst (All P) e (subst (All P) (take_all i (map f xs) within) so_far)

-- a row is refused for its first attribute that is refused
pub refused_in : (given : Given) (row : Attribute) (k : ℕ) (fault : PartFault) → k < count_of given row.count → ((j : ℕ) → j < k → EntryFits given row j) → RefusesAt given row k fault → RefusesIn given row fault
refused_in given row k fault inside earlier (inl e) = inl e
refused_in given row k fault inside earlier (inr bad) =
    inr (bad.0, bad.1, bad.2, record { k = k; inside = inside; earlier = earlier; bad = bad.3 })

-- a component is refused for its first row that is refused
pub refused_by : {X : Type 0} (given : Given) (f : X → Attribute) (xs : List X) (i : ℕ) (d : X) (fault : PartFault) → i < length xs → map f xs ≡ (entry given.kind).attributes → All (RowFits given) (take i (map f xs)) → RefusesIn given (f (get_or xs i d)) fault → Refuses given fault
refused_by given f xs i d fault inside rows so_far (inl memory) = inl memory
refused_by given f xs i d fault inside rows so_far (inr bad) =
    let within : i < length (map f xs) = rw (length-map xs f) inside in
    let split : map f xs ≡ take i (map f xs) ++ (f (get_or xs i d) ∷ drop (i + 1) (map f xs)) = sym (take-append-drop i (map f xs)) ∙ ap (λ l. take i (map f xs) ++ l) (rw add-one (drop-cons (map f xs) i (f d) within) ∙ ap (λ x. x ∷ drop (i + 1) (map f xs)) (get_or-map f xs i d (f d) inside)) in
    inr (bad.0, bad.1, bad.2, record { before = take i (map f xs); row = f (get_or xs i d); behind = drop (i + 1) (map f xs); rows = sym rows ∙ split; fit = so_far; first = bad.3 })

-- an attribute without a value
pub fits_without : (given : Given) (row : Attribute) (k : ℕ) (name : List ℕ) (o : Option (Bor (List ℕ))) → name ≡ name_at row.name row.count k → option_map (λ (t : Bor (List ℕ)). t.now) o ≡ value_of given row name → o ≡ None → EntryFits given row k
fits_without given row k name o named e none = λ x valued. absurd (nothing (ap (option_map (λ (t : Bor (List ℕ)). t.now)) (sym none) ∙ e ∙ ap (value_of given row) named ∙ valued))
  where
    nothing : {x : List ℕ} → None ≡ Some x → ⊥
    nothing h = cc

-- an attribute with a value in its range
pub fits_with : (given : Given) (row : Attribute) (k : ℕ) (name : List ℕ) (o : Option (Bor (List ℕ))) (text : Bor (List ℕ)) → name ≡ name_at row.name row.count k → option_map (λ (t : Bor (List ℕ)). t.now) o ≡ value_of given row name → o ≡ Some text → InRange given row.range text.now → EntryFits given row k
fits_with given row k name o text named e some fits = λ x valued. subst (InRange given row.range) (same (ap (option_map (λ (t : Bor (List ℕ)). t.now)) (sym some) ∙ e ∙ ap (value_of given row) named ∙ valued)) fits
  where
    same : {x y : List ℕ} → Some x ≡ Some y → x ≡ y
    same h = cc
