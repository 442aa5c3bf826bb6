-- A stimulus of static values settles within the longest delay, and each driven net has its static value then.
use Rattle.std.proofs.Common.{◌≡◌, ℕ, zero, suc, ◌+◌, ◌-◌, ◌<◌, ◌≤◌, Bool, true, false, List, [], ◌∷◌, ◌++◌, map, get_or, Some, refl, ap, ◌∙◌, arith, inl, inr, ◌⊎◌, if◌then◌else◌}
use Rattle.std.specs.Prelude.{nat_le, slice_get}
use Rattle.std.proofs.lemmas.Bool.{cases_lt, le-leb, both_ways}
use Rattle.std.proofs.lemmas.List.Sums.{fold-append}
use Rattle.std.proofs.lemmas.List.Elements.{All-nil, All-cons, All-append}
use Rattle.lg_value.specs.declared.bit.Bit.{Bit}
use Rattle.lg_timing.specs.Circuit.{Word, Circuit, Stimulus}
use Rattle.lg_timing.specs.Instant.{numbered_parts, in_force, silence, value_at, outputs_at}
use Rattle.lg_timing.specs.Settling.{is_busy, busy_count, SettlesAt, SettlesWithin, OscillatesPast, StayFrom}
use Rattle.lg_timing.specs.Session.{read_at, set_at}
use Rattle.lg_timing.proofs.Outcome.{settles_or_oscillates}
use Rattle.lg_timing.proofs.Outputs.{SameOutputs, SameOutputs-from_quiet}
use Rattle.lg_netlist.specs.declared.netlist.PinUse.{PinUse}
use Rattle.lg_netlist.specs.declared.netlist.Netlist.{Netlist}
use Rattle.lg_netlist.specs.Cell.{State}
use Rattle.lg_netlist.specs.Chain.{IsLongest}
use Rattle.lg_netlist.specs.Static.{output_pins, word_on, AreStaticValues}
use Rattle.lg_netlist.specs.Static as static
use Rattle.lg_netlist.proofs.StaticRuns.{map_agrees}
use Rattle.lg_sim.specs.InTime.{circuit_of}
use Rattle.lg_sim.proofs.PartsInTime.{steady_parts}
use Rattle.lg_sim.proofs.DrivenBits.{IsOutputBit, IsPinBit}
use Rattle.lg_sim.proofs.StaticNets.{IsDriven, Stays, ShowsStatic, pin_is_static, output_is_static}
use Rattle.lg_sim.proofs.Arrival.{all_arrive, static_when_same, quiet_after}

-- ---- the last stimulus

-- it is in force from its instant on
in_force-last : (before : List Stimulus) (s : Stimulus) (t : ℕ) → s.from ≤ t → in_force (before ++ s ∷ []) t ≡ s
in_force-last before s t low =
    let now : nat_le s.from t ≡ true = le-leb s.from t low in
    fold-append (λ (a later : Stimulus). if nat_le later.from t then later else a) silence before (s ∷ []) ∙ rw now refl

stay_more : (before : List Stimulus) (s : Stimulus) → StayFrom before s.from → StayFrom (before ++ s ∷ []) s.from
stay_more before s stay =
    let stands : Stimulus → Type 0 = λ (other : Stimulus). other.from ≤ s.from in
    All-append stands before (s ∷ []) stay (All-cons stands s [] (omega arith) (All-nil stands))

-- ---- how many instants are busy

busy_count-few : (c : Circuit) (stimuli : List Stimulus) (start n : ℕ) → busy_count c stimuli start n ≤ n
unfolding busy_count
busy_count-few c stimuli start zero = omega arith
busy_count-few c stimuli start (suc n) = by (is_busy c stimuli (start + suc n)) (busy_count-few c stimuli start n)
  where
    by : (b : Bool) → busy_count c stimuli start n ≤ n → busy_count c stimuli start n + (if b then 1 else 0) ≤ suc n
    by true few = omega (arith, few)
    by false few = omega (arith, few)

-- ---- a stretch of quiet instants keeps the outputs

same_after : (c : Circuit) (stimuli : List Stimulus) (t : ℕ) → ((u : ℕ) → t < u → is_busy c stimuli u ≡ false) → (m u : ℕ) → u ≡ t + m → SameOutputs c stimuli t u
same_after c stimuli t quiet zero u at k d inside =
    let same : t ≡ u = omega (arith, at) in
    ap (λ (v : ℕ). outputs_at c stimuli v (get_or (numbered_parts c) k d)) same
same_after c stimuli t quiet (suc m) zero at k d inside = absurd (omega (arith, at))
same_after c stimuli t quiet (suc m) (suc u) at k d inside =
    same_after c stimuli t quiet m u (omega (arith, at)) k d inside ∙ SameOutputs-from_quiet c stimuli u (quiet (suc u) (omega (arith, at))) k d inside

-- where a stimulus has settled, how soon, and on which values of the output pins
pub record Soon (n : Netlist) (stimuli : List Stimulus) (start longest limit : ℕ) (value : ℕ → Bit) : Type 0 where
  pub settled : ℕ
  pub soon : settled ≤ start + longest
  pub settles : SettlesWithin (circuit_of n) stimuli start limit settled
  pub outputs : read_at (circuit_of n) stimuli settled ≡ static.output_words n value

-- what is read of some pins
read_pins : (f value : ℕ → Bit) (pins : List PinUse) → ((place i net : ℕ) (pin : PinUse) → slice_get pins place ≡ Some pin → slice_get pin.bits i ≡ Some net → f net ≡ value net)
    → map (λ (nets : List ℕ). map f nets) (map (λ (p : PinUse). p.bits) pins) ≡ map (λ (p : PinUse). word_on value p.bits) pins
read_pins f value pins same =
    read_each pins ∙ map_agrees (λ (p : PinUse). word_on f p.bits) (λ (p : PinUse). word_on value p.bits) pins (λ place pin is_pin. map_agrees f value pin.bits (λ i net is_bit. same place i net pin is_pin is_bit))
  where
    read_each : (ps : List PinUse) → map (λ (nets : List ℕ). map f nets) (map (λ (p : PinUse). p.bits) ps) ≡ map (λ (p : PinUse). word_on f p.bits) ps
    read_each [] = refl
    read_each (p ∷ ps) = ap (λ (words : List Word). map f p.bits ∷ words) (read_each ps)

-- a settled stimulus shows the static values
outputs_when_settled : (n : Netlist) (stimuli : List Stimulus) (start : ℕ) (s : Stimulus) (states : List State) (value : ℕ → Bit) (longest settled : ℕ)
    → Stays n stimuli start s states value → IsLongest n longest → SettlesAt (circuit_of n) stimuli start settled → settled ≤ start + longest → read_at (circuit_of n) stimuli settled ≡ static.output_words n value
outputs_when_settled n stimuli start s states value longest settled stays bound settles soon =
    read_pins (value_at (circuit_of n) stimuli settled) value (output_pins n) (λ place i net pin is_pin is_bit. by net (stays.driven.shown place i net pin is_pin is_bit))
  where
    shows : (part output : ℕ) → ShowsStatic n stimuli value settled part output
    shows =
        static_when_same n stimuli value settled (start + longest) (same_after (circuit_of n) stimuli settled settles.quiet (start + longest - settled) (start + longest) (omega (arith, soon)))
        (λ part output. all_arrive n stimuli start s states value longest stays bound (start + longest) part output (omega arith))

    by : (net : ℕ) → IsOutputBit n net ⊎ IsPinBit n net → value_at (circuit_of n) stimuli settled net ≡ value net
    by net (inl d) = output_is_static n stimuli start s states value stays settled net settles.not_before d (shows d.part d.output)
    by net (inr p) = pin_is_static n stimuli start s states value stays settled net settles.not_before p

not_later : (n : Netlist) (stimuli : List Stimulus) (start : ℕ) (s : Stimulus) (states : List State) (value : ℕ → Bit) (longest settled : ℕ)
    → Stays n stimuli start s states value → IsLongest n longest → SettlesAt (circuit_of n) stimuli start settled → settled ≤ start + longest
not_later n stimuli start s states value longest settled stays bound settles =
    elim settles.last_busy [
      | inl at_once ↦ omega (arith, at_once)
      | inr busy ↦ elim (cases_lt (start + longest) settled) [
        | inl late ↦ absurd (both_ways (is_busy (circuit_of n) stimuli settled) (quiet_after n stimuli start s states value longest stays bound settled late) busy)
        | inr soon ↦ soon
      ]
    ]

-- no stimulus of static values oscillates past a limit that the longest delay keeps to
never_oscillates : (n : Netlist) (stimuli : List Stimulus) (start : ℕ) (s : Stimulus) (states : List State) (value : ℕ → Bit) (longest limit after : ℕ)
    → Stays n stimuli start s states value → IsLongest n longest → longest ≤ limit → OscillatesPast (circuit_of n) stimuli start limit after → ⊥
never_oscillates n stimuli start s states value longest limit after stays bound enough oscillates =
    elim (cases_lt longest after) [
      | inl late ↦ both_ways (is_busy (circuit_of n) stimuli (start + after)) (quiet_after n stimuli start s states value longest stays bound (start + after) (omega (arith, late))) oscillates.busy
      | inr soon ↦ omega (arith, soon, enough, oscillates.number, busy_count-few (circuit_of n) stimuli start after)
    ]

settles_soon : (n : Netlist) (stimuli : List Stimulus) (start : ℕ) (s : Stimulus) (states : List State) (value : ℕ → Bit) (longest limit : ℕ) → Stays n stimuli start s states value
    → IsLongest n longest → longest ≤ limit → StayFrom stimuli start → Soon n stimuli start longest limit value
settles_soon n stimuli start s states value longest limit stays bound enough stay =
    elim (settles_or_oscillates 255 (circuit_of n) stimuli start limit (steady_parts n.parts) stay) [
      | inr found ↦ absurd (never_oscillates n stimuli start s states value longest limit found.0 stays bound enough found.1)
      | inl found ↦
          let soon = not_later n stimuli start s states value longest found.0 stays bound found.1.settles in
          record { settled = found.0; soon = soon; settles = found.1; outputs = outputs_when_settled n stimuli start s states value longest found.0 stays bound found.1.settles soon }
    ]

-- the stimuli with one row more
abbrev pub extended : List Stimulus → ℕ → List Word → List Stimulus
extended before from words = before ++ set_at from words ∷ []

pub extended_stays : (before : List Stimulus) (from : ℕ) (words : List Word) → StayFrom before from → StayFrom (extended before from words) from
extended_stays before from words stay = stay_more before (set_at from words) stay

-- one row more settles within the longest delay
pub row_settles : (n : Netlist) → IsDriven n → (before : List Stimulus) (from : ℕ) (words : List Word) (states : List State) (value : ℕ → Bit) (longest limit : ℕ) → AreStaticValues n states words value
    → IsLongest n longest → longest ≤ limit → StayFrom before from → Soon n (extended before from words) from longest limit value
row_settles n driven before from words states value longest limit values bound enough stay =
    let s : Stimulus = set_at from words in
    let stays : Stays n (extended before from words) from s states value = record { driven = driven; values = values; last = λ t low. in_force-last before s t low } in
    settles_soon n (extended before from words) from s states value longest limit stays bound enough (stay_more before s stay)
