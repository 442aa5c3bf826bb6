-- The words of a row.
use Rattle.std.proofs.Common.{◌≡◌, ℕ, zero, suc, ◌<◌, ◌≤◌, List, [], ◌∷◌, ◌++◌, length, get_or, take, map, refl, sym, ap, subst, ◌∙◌, arith, append_assoc}
use Rattle.std.proofs.lemmas.List.{append-nil}
use Rattle.lg_vectors.specs.declared.column.Column.{Column}
use Rattle.lg_vectors.specs.CaredBits.{CaredBits}
use Rattle.lg_vectors.specs.Rows.{IsRowOf}
use Rattle.lg_vectors.specs.Values.{IsValue}
use Rattle.lg_vectors.specs.VectorText.{AreValues, AreRow}
use Rattle.lg_vectors.proofs.ValueLemmas.{value_width}

values_more : (columns : List Column) (names : List (List ℕ)) (row : List CaredBits) (column : Column) (word : List ℕ) (value : CaredBits) → AreValues columns names row → IsValue column.width word value → AreValues (columns ++ column ∷ []) (names ++ word ∷ []) (row ++ value ∷ [])
values_more [] [] [] column word value h is = (is, tt)
values_more [] [] (v ∷ row) column word value h is = absurd h
values_more [] (n ∷ names) row column word value h is = absurd h
values_more (c ∷ columns) [] row column word value h is = absurd h
values_more (c ∷ columns) (n ∷ names) [] column word value h is = absurd h
values_more (c ∷ columns) (n ∷ names) (v ∷ row) column word value h is = (h.0, values_more columns names row column word value h.1 is)

-- The words so far are the values of the columns so far, and these words are left.
pub record ValuesSoFar (columns : List Column) (all rest : List (List ℕ)) (row : List CaredBits) : Type 0 where
  pub taken : List (List ℕ)
  pub split : all ≡ taken ++ rest
  pub are : AreValues columns taken row

pub values_begin : (all : List (List ℕ)) (row : List CaredBits) → row ≡ [] → ValuesSoFar [] all all row
values_begin all row none = rw none record { taken = []; split = refl; are = tt }

pub values_next : (columns : List Column) (all rest after : List (List ℕ)) (word : List ℕ) (row more : List CaredBits) (column : Column) (value : CaredBits) → ValuesSoFar columns all rest row → rest ≡ word ∷ after → IsValue column.width word value → more ≡ row ++ value ∷ []
    → ValuesSoFar (columns ++ column ∷ []) all after more
values_next columns all rest after word row more column value so_far next is grown = rw grown record {
  taken = so_far.taken ++ word ∷ [];
  split = so_far.split ∙ ap (λ t. so_far.taken ++ t) next ∙ sym (append_assoc so_far.taken (word ∷ []) after);
  are = values_more columns so_far.taken row column word value so_far.are is;
}

-- no row has fewer words than columns
too_few : (columns : List Column) (taken : List (List ℕ)) (row other : List CaredBits) (i : ℕ) → AreValues (take i columns) taken row → i < length columns → AreValues columns taken other → ⊥
too_few [] taken row other i h inside are = omega (arith, inside)
too_few (c ∷ columns) [] row [] zero h inside are = are
too_few (c ∷ columns) [] row (v ∷ other) zero h inside are = are
too_few (c ∷ columns) (w ∷ taken) row other zero h inside are = h
too_few (c ∷ columns) [] row other (suc i) h inside are = h
too_few (c ∷ columns) (w ∷ taken) [] other (suc i) h inside are = h
too_few (c ∷ columns) (w ∷ taken) (v ∷ row) [] (suc i) h inside are = are
too_few (c ∷ columns) (w ∷ taken) (v ∷ row) (u ∷ other) (suc i) h inside are = too_few columns taken row other i h.1 (omega (arith, inside)) are.1

value_at : (columns : List Column) (taken after : List (List ℕ)) (word : List ℕ) (row other : List CaredBits) (i : ℕ) (column : Column) → AreValues (take i columns) taken row → i < length columns → column ≡ get_or columns i column → AreValues columns (taken ++ word ∷ after) other
    → (value : CaredBits) × IsValue column.width word value
value_at [] taken after word row other i column h inside read are = absurd (omega (arith, inside))
value_at (c ∷ columns) [] after word row [] zero column h inside read are = absurd are
value_at (c ∷ columns) [] after word row (v ∷ other) zero column h inside read are = (v, rw read are.0)
value_at (c ∷ columns) (w ∷ taken) after word row other zero column h inside read are = absurd h
value_at (c ∷ columns) [] after word row other (suc i) column h inside read are = absurd h
value_at (c ∷ columns) (w ∷ taken) after word [] other (suc i) column h inside read are = absurd h
value_at (c ∷ columns) (w ∷ taken) after word (v ∷ row) [] (suc i) column h inside read are = absurd are
value_at (c ∷ columns) (w ∷ taken) after word (v ∷ row) (u ∷ other) (suc i) column h inside read are = value_at columns taken after word row other i column h.1 (omega (arith, inside)) read are.1

-- no row has more
too_many : (columns : List Column) (taken after : List (List ℕ)) (word : List ℕ) (row other : List CaredBits) → AreValues columns taken row → AreValues columns (taken ++ word ∷ after) other → ⊥
too_many [] [] after word row other h are = are
too_many [] (w ∷ taken) after word row other h are = h
too_many (c ∷ columns) [] after word row other h are = h
too_many (c ∷ columns) (w ∷ taken) after word [] other h are = h
too_many (c ∷ columns) (w ∷ taken) after word (v ∷ row) [] h are = are
too_many (c ∷ columns) (w ∷ taken) after word (v ∷ row) (u ∷ other) h are = too_many columns taken after word row other h.1 are.1

from_row : (columns : List Column) (all : List (List ℕ)) (row : List CaredBits) → 1 ≤ length columns → AreRow columns all row → AreValues columns all row
from_row [] all row some h = absurd (omega (arith, some))
from_row (c ∷ columns) all row some h = h

to_row : (columns : List Column) (all : List (List ℕ)) (row : List CaredBits) → 1 ≤ length columns → AreValues columns all row → AreRow columns all row
to_row [] all row some h = absurd (omega (arith, some))
to_row (c ∷ columns) all row some h = h

-- no word is left for a column
pub row_short : (columns : List Column) (all rest : List (List ℕ)) (row : List CaredBits) (i : ℕ) → ValuesSoFar (take i columns) all rest row → i < length columns → rest ≡ [] → (other : List CaredBits) → AreRow columns all other → ⊥
row_short columns all rest row i so_far inside none other are =
    let same : all ≡ so_far.taken = so_far.split ∙ ap (λ t. so_far.taken ++ t) none ∙ append-nil so_far.taken in
    let given : AreValues columns so_far.taken other = subst (λ (t : List (List ℕ)). AreValues columns t other) same (from_row columns all other (omega arith) are) in
    too_few columns so_far.taken row other i so_far.are inside given

-- a word is no value of its column
pub row_bad : (columns : List Column) (all rest after : List (List ℕ)) (word : List ℕ) (row : List CaredBits) (i : ℕ) (column : Column) → ValuesSoFar (take i columns) all rest row → i < length columns → column ≡ get_or columns i column → rest ≡ word ∷ after
    → ((value : CaredBits) → IsValue column.width word value → ⊥) → (other : List CaredBits) → AreRow columns all other → ⊥
row_bad columns all rest after word row i column so_far inside read next none other are =
    let given : AreValues columns (so_far.taken ++ word ∷ after) other = subst (λ (t : List (List ℕ)). AreValues columns t other) (so_far.split ∙ ap (λ t. so_far.taken ++ t) next) (from_row columns all other (omega arith) are) in
    let at = value_at columns so_far.taken after word row other i column so_far.are inside read given in
    none at.0 at.1

-- a word is left behind the last column
pub row_long : (columns : List Column) (all rest after : List (List ℕ)) (word : List ℕ) (row : List CaredBits) → ValuesSoFar columns all rest row → 1 ≤ length columns → rest ≡ word ∷ after → (other : List CaredBits) → AreRow columns all other → ⊥
row_long columns all rest after word row so_far some next other are =
    let given : AreValues columns (so_far.taken ++ word ∷ after) other = subst (λ (t : List (List ℕ)). AreValues columns t other) (so_far.split ∙ ap (λ t. so_far.taken ++ t) next) (from_row columns all other some are) in
    too_many columns so_far.taken after word row other so_far.are given

-- all words are taken
pub row_whole : (columns : List Column) (all rest : List (List ℕ)) (row : List CaredBits) → ValuesSoFar columns all rest row → 1 ≤ length columns → rest ≡ [] → AreRow columns all row
row_whole columns all rest row so_far some none =
    let same : all ≡ so_far.taken = so_far.split ∙ ap (λ t. so_far.taken ++ t) none ∙ append-nil so_far.taken in
    to_row columns all row some (subst (λ (t : List (List ℕ)). AreValues columns t row) (sym same) so_far.are)

values_widths : (columns : List Column) (all : List (List ℕ)) (row : List CaredBits) → AreValues columns all row → IsRowOf columns row
values_widths [] [] [] h = refl
values_widths [] [] (v ∷ row) h = absurd h
values_widths [] (w ∷ all) row h = absurd h
values_widths (c ∷ columns) [] row h = absurd h
values_widths (c ∷ columns) (w ∷ all) [] h = absurd h
values_widths (c ∷ columns) (w ∷ all) (v ∷ row) h =
    let first : length v.bits ≡ c.width = value_width c.width w v h.0 in
    let more : map (λ (x : CaredBits). length x.bits) row ≡ map (λ (x : Column). x.width) columns = values_widths columns all row h.1 in
    ap (λ n. n ∷ map (λ (x : CaredBits). length x.bits) row) first ∙ ap (λ t. c.width ∷ t) more

-- a row has a value a column, in its width
pub row_widths : (columns : List Column) (all : List (List ℕ)) (row : List CaredBits) → AreRow columns all row → IsRowOf columns row
row_widths [] all row h = rw h.1 refl
row_widths (c ∷ columns) all row h = values_widths (c ∷ columns) all row h
