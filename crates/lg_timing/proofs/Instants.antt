-- While the stimulus stays, an instant that is not busy is in all the one before.
use Rattle.std.proofs.Common.{◌≡◌, ℕ, suc, ◌<◌, List, [], ◌∷◌, map, length, get_or, sym, refl, ap, ◌∙◌, subst, arith}
use Rattle.std.specs.Prelude.{All}
use Rattle.std.proofs.lemmas.List.{get_or-map}
use Rattle.std.proofs.lemmas.List.Elements.{All-head, All-tail}
use Rattle.std.proofs.lemmas.List.FromFn.{get_or-enumerate_from, length-enumerate_from}
use Rattle.lg_value.specs.declared.bit.Bit.{Bit}
use Rattle.lg_timing.specs.Circuit.{Word, Circuit, Stimulus}
use Rattle.lg_timing.specs.Instant.{Numbered, Instant, numbered_parts, instant_at, timeline, in_force, next, next_state, net_bit, output_words, input_words, state_of, unknown_words}
use Rattle.lg_timing.specs.Settling.{IsSteady}
use Rattle.lg_timing.proofs.Outputs.{Agree, SameOutputs, net_bit_alike}

-- what holds of each part holds of each numbered one
pub steady_numbered : (greatest : ℕ) (c : Circuit) → All (IsSteady greatest) c.parts → All (λ (p : Numbered). IsSteady greatest p.1) (numbered_parts c)
steady_numbered greatest c steady k d inside =
    let within : k < length c.parts = omega (arith, inside, length-enumerate_from 0 c.parts) in
    let is = get_or-enumerate_from 0 c.parts k d within in
    subst (λ (p : Numbered). IsSteady greatest p.1) (sym is) (steady k d.1 within)

-- each numbered part finds its state under its number
pub state_of_next : (c : Circuit) (f : Numbered → List Word) (nets : ℕ → Bit) → Agree (λ (p : Numbered). state_of (record { nets = nets; states = map f (numbered_parts c) }) p.0) f (numbered_parts c)
state_of_next c f nets k d inside =
    let within : k < length c.parts = omega (arith, inside, length-enumerate_from 0 c.parts) in
    let is = get_or-enumerate_from 0 c.parts k d within in
    let number : (get_or (numbered_parts c) k d).0 ≡ k = ap (λ (p : Numbered). p.0) is ∙ omega arith in
    ap (λ n. get_or (map f (numbered_parts c)) n []) number ∙ get_or-map f (numbered_parts c) k d [] inside

map_alike : (f g : Numbered → List Word) (parts : List Numbered) → Agree f g parts → map f parts ≡ map g parts
map_alike f g [] same = refl
map_alike f g (p ∷ parts) same =
    let first : f p ≡ g p = All-head (λ (q : Numbered). f q ≡ g q) p parts same in
    let rest = map_alike f g parts (All-tail (λ (q : Numbered). f q ≡ g q) p parts same) in
    rw (first, rest) refl

-- a step from an instant to the same nets leaves a steady part's state
pub next_state_again : (greatest : ℕ) (past : List Instant) (instant : Instant) (p : Numbered) → IsSteady greatest p.1 → state_of instant p.0 ≡ next_state past instant.nets p → next_state (instant ∷ past) instant.nets p ≡ next_state past instant.nets p
next_state_again greatest [] instant p steady was =
    let now : List Word = input_words instant.nets p.1 in
    ap (λ state. p.1.step state now now) was
    ∙ steady.second_step p.1.start (unknown_words p.1.inputs) now
next_state_again greatest (last ∷ past) instant p steady was =
    let now : List Word = input_words instant.nets p.1 in
    ap (λ state. p.1.step state now now) was
    ∙ steady.second_step (state_of last p.0) (input_words last.nets p.1) now

-- the next instant is this one again, where no output differs then
pub next_again : (greatest : ℕ) (c : Circuit) (s : Stimulus) (past : List Instant) → All (IsSteady greatest) c.parts → Agree (output_words past) (output_words (next c s past ∷ past)) (numbered_parts c) → next c s (next c s past ∷ past) ≡ next c s past
next_again greatest c s past steady same =
    let now : Instant = next c s past in
    let nets : net_bit c s (now ∷ past) ≡ net_bit c s past =
    λ i net. sym (net_bit_alike c s past (now ∷ past) net same) i in
    let states : Agree (next_state (now ∷ past) now.nets) (next_state past now.nets) (numbered_parts c) =
    λ k d inside. next_state_again greatest past now (get_or (numbered_parts c) k d) (steady_numbered greatest c steady k d inside)
    (state_of_next c (next_state past (net_bit c s past)) (net_bit c s past) k d inside) in
    ap (λ (bits : ℕ → Bit). record { nets = bits; states = map (next_state (now ∷ past) bits) (numbered_parts c) }) nets
    ∙ ap (λ (all : List (List Word)). record { nets = now.nets; states = all }) (map_alike (next_state (now ∷ past) now.nets) (next_state past now.nets) (numbered_parts c) states)

pub instant_again : (greatest : ℕ) (c : Circuit) (stimuli : List Stimulus) (t : ℕ) → All (IsSteady greatest) c.parts → in_force stimuli (suc t) ≡ in_force stimuli t → SameOutputs c stimuli t (suc t) → instant_at c stimuli (suc t) ≡ instant_at c stimuli t
unfolding timeline
instant_again greatest c stimuli t steady stays same =
    ap (λ s. next c s (timeline c stimuli (suc t))) stays
    ∙ next_again greatest c (in_force stimuli t) (timeline c stimuli t) steady same
