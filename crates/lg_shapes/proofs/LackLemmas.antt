-- A gate with an attached input, and with all of them where that is asked for, lacks none.
use Rattle.std.proofs.Common.{◌≡◌, ℕ, zero, suc, ◌+◌, ◌<◌, Bool, true, false, not, List, [], ◌∷◌, length, get_or, map, refl, ap, ◌∙◌, arith, Option}
use Rattle.std.specs.Prelude.{is_none, ◌||◌, ◌&&◌}
use Rattle.std.specs.List.{list_all, list_any, range_with_len}
use Rattle.lg_gates.specs.Gate.{lacks_inputs}
use Rattle.lg_memory.specs.Inputs.{Word, word_at}
use Rattle.lg_shapes.specs.Gates.{read_input, read_at, read_inputs}

-- an input is left out where nothing is attached
left_out : (negated attached : Bool) (word : Word) → is_none (read_input negated attached word) ≡ not attached
left_out negated false word = refl
left_out false true word = refl
left_out true true word = refl

next : (f : ℕ → Option Word) (b : Bool) (rest : List Bool) (start : ℕ) → ((k : ℕ) → is_none (f (start + k)) ≡ not (get_or (b ∷ rest) k false)) → (k : ℕ) → is_none (f (start + 1 + k)) ≡ not (get_or rest k false)
next f b rest start h k =
    let later : start + 1 + k ≡ start + suc k = omega arith in
    rw later (h (suc k))

first : (f : ℕ → Option Word) (b : Bool) (rest : List Bool) (start : ℕ) → ((k : ℕ) → is_none (f (start + k)) ≡ not (get_or (b ∷ rest) k false)) → is_none (f start) ≡ not b
first f b rest start h =
    let here : start + 0 ≡ start = omega arith in
    rw here at (h 0)

not_all : (f : ℕ → Option Word) (there : List Bool) (start : ℕ) → ((k : ℕ) → is_none (f (start + k)) ≡ not (get_or there k false)) → list_any (λ t. t) there ≡ true → list_all is_none (map f (range_with_len start (length there))) ≡ false
not_all f [] start h some = absurd (cc some)
not_all f (true ∷ rest) start h some = rw (first f true rest start h) refl
not_all f (false ∷ rest) start h some =
    rw (first f false rest start h) (not_all f rest (start + 1) (next f false rest start h) some)

none : (f : ℕ → Option Word) (there : List Bool) (start : ℕ) → ((k : ℕ) → is_none (f (start + k)) ≡ not (get_or there k false)) → list_all (λ t. t) there ≡ true → list_any is_none (map f (range_with_len start (length there))) ≡ false
none f [] start h all = refl
none f (true ∷ rest) start h all =
    rw (first f true rest start h) (none f rest (start + 1) (next f true rest start h) all)
none f (false ∷ rest) start h all = absurd (cc all)

pub lacks_none : (negated attached : List Bool) (inputs : List Word) (strict : Bool) → length attached ≡ length inputs → (list_any (λ t. t) attached ≡ true) × (strict ≡ true → list_all (λ t. t) attached ≡ true) → lacks_inputs strict (read_inputs negated attached inputs) ≡ false
lacks_none negated attached inputs false there has =
    let f = read_at negated attached inputs in
    let out : (k : ℕ) → is_none (f (0 + k)) ≡ not (get_or attached k false) = λ k. let here : 0 + k ≡ k = omega arith in rw here (left_out (get_or negated k false) (get_or attached k false) (word_at inputs k)) in
    rw (← there, not_all f attached 0 out has.0) refl
lacks_none negated attached inputs true there has =
    let f = read_at negated attached inputs in
    let out : (k : ℕ) → is_none (f (0 + k)) ≡ not (get_or attached k false) = λ k. let here : 0 + k ≡ k = omega arith in rw here (left_out (get_or negated k false) (get_or attached k false) (word_at inputs k)) in
    rw (← there, not_all f attached 0 out has.0, none f attached 0 out (has.1 refl)) refl
