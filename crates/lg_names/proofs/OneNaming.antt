-- Labels have one naming.
use Rattle.std.proofs.Common.{◌≡◌, ℕ, ◌<◌, Bool, true, false, List, [], ◌∷◌, ◌++◌, MatchBool, refl, sym, subst, ◌∙◌, ap, ◌⊎◌, inl, inr}
use Rattle.std.proofs.lemmas.Bool.{cases_order, false≢true}
use Rattle.lg_names.specs.Names.{name_of_label, is_taken, numbered_name, IsFirstFree, AreNames}

-- of two first free names neither has the lesser number
none_lower : (taken : List (List ℕ)) (name found found' : List ℕ) (f : IsFirstFree taken name found) (f' : IsFirstFree taken name found') → f.number < f'.number → ⊥
none_lower taken name found found' f f' less = false≢true (sym f.free ∙ (ap (is_taken taken) f.numbered ∙ f'.first f.number f.from_two less))

one_first_free : (taken : List (List ℕ)) (name found found' : List ℕ) (f : IsFirstFree taken name found) (f' : IsFirstFree taken name found')
    → (f.number ≡ f'.number) ⊎ ((f.number < f'.number) ⊎ (f'.number < f.number)) → found ≡ found'
one_first_free taken name found found' f f' (inl e) = f.numbered ∙ (ap (numbered_name name) e ∙ sym f'.numbered)
one_first_free taken name found found' f f' (inr (inl less)) = absurd (none_lower taken name found found' f f' less)
one_first_free taken name found found' f f' (inr (inr more)) = absurd (none_lower taken name found' found f' f more)

one_free_name : (taken : List (List ℕ)) (name found found' : List ℕ) (b : Bool) → MatchBool b (IsFirstFree taken name found) (found ≡ name)
    → MatchBool b (IsFirstFree taken name found') (found' ≡ name) → found ≡ found'
one_free_name taken name found found' true f f' = one_first_free taken name found found' f f' (cases_order f.number f'.number)
one_free_name taken name found found' false e e' = e ∙ sym e'

-- the labels have one naming
pub one_naming : (taken labels names names' : List (List ℕ)) → AreNames taken labels names → AreNames taken labels names' → names ≡ names'
one_naming taken [] [] [] h h' = refl
one_naming taken [] (name ∷ names) names' h h' = absurd h
one_naming taken [] [] (name' ∷ names') h h' = absurd h'
one_naming taken (label ∷ labels) [] names' h h' = absurd h
one_naming taken (label ∷ labels) (name ∷ names) [] h h' = absurd h'
one_naming taken (label ∷ labels) (name ∷ names) (name' ∷ names') h h' =
    let first : name ≡ name' = one_free_name taken (name_of_label label) name name' (is_taken taken (name_of_label label)) h.0 h'.0 in
    let others : names ≡ names' = one_naming (taken ++ name ∷ []) labels names names' h.1 (subst (λ (n : List ℕ). AreNames (taken ++ n ∷ []) labels names') (sym first) h'.1) in
    ap (λ (ns : List (List ℕ)). name ∷ ns) others ∙ ap (λ (n : List ℕ). n ∷ names') first
