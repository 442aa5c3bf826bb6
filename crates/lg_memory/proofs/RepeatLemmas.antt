-- A step that repeats its inputs, and one without its edge.
use Rattle.std.proofs.Common.{◌≡◌, Bool, true, false, inl, inr, List, [], ◌∷◌, refl, ap, None}
use Rattle.lg_value.specs.declared.bit.Bit.{Bit}
use Rattle.lg_value.specs.declared.bit.Bit.TheVariants.{Zero, One, Unknown, Error}
use Rattle.lg_memory.specs.declared.form.Trigger.{Trigger}
use Rattle.lg_memory.specs.declared.form.Trigger.TheVariants.{Rising, Falling, High, Low}
use Rattle.lg_memory.specs.declared.form.FlipKind.TheVariants.{D, T, Jk, Sr}
use Rattle.lg_memory.specs.declared.form.StateForm.{StateForm}
use Rattle.lg_memory.specs.declared.form.StateForm.TheVariants.{Flip, Register, Counter, Shift, Rom, Ram}
use Rattle.lg_memory.specs.Inputs.{Word, word_at, bit_at}
use Rattle.lg_memory.specs.Form.{IsEdge, IsForm}
use Rattle.lg_memory.specs.Controls.{triggers, clock_of, clear_of, preset_of, is_one, is_triggered, event_of}
use Rattle.lg_memory.specs.FlipFlop.{sr_stored}
use Rattle.lg_memory.specs.Register.{registered}
use Rattle.lg_memory.specs.Step.{triggered_words, words_after, stepped}

-- a clock that stays has no edge
no_edge : (trigger : Trigger) (b : Bit) → IsEdge trigger → triggers trigger b b ≡ true → ⊥
no_edge Rising Zero edge h = cc h
no_edge Rising One edge h = cc h
no_edge Rising Unknown edge h = cc h
no_edge Rising Error edge h = cc h
no_edge Falling Zero edge h = cc h
no_edge Falling One edge h = cc h
no_edge Falling Unknown edge h = cc h
no_edge Falling Error edge h = cc h
no_edge High b edge h = elim edge [ inl e ↦ cc | inr e ↦ cc ]
no_edge Low b edge h = elim edge [ inl e ↦ cc | inr e ↦ cc ]

-- a clock that triggers while it stays is at its level, and so triggers whatever it was before
level_before : (trigger : Trigger) (a b : Bit) → triggers trigger b b ≡ true → triggers trigger a b ≡ true
level_before Rising a b h = absurd (no_edge Rising b (inl refl) h)
level_before Falling a b h = absurd (no_edge Falling b (inr refl) h)
level_before High a One h = refl
level_before High a Zero h = absurd (cc h)
level_before High a Unknown h = absurd (cc h)
level_before High a Error h = absurd (cc h)
level_before Low a Zero h = refl
level_before Low a One h = absurd (cc h)
level_before Low a Unknown h = absurd (cc h)
level_before Low a Error h = absurd (cc h)

sr_again : (q s r : Bit) → sr_stored (sr_stored q s r) s r ≡ sr_stored q s r
sr_again q Zero Zero = refl
sr_again q One One = refl
sr_again q _ _ = refl

registered_again : (held d : Word) (en : Bit) → registered (registered held d en) d en ≡ registered held d en
registered_again held d Zero = refl
registered_again held d _ = refl

-- where a step of one list of inputs to itself triggers, so did the step before it, and it stores the same again
again : (form : StateForm) (words old new : List Word) → IsForm form → is_triggered (clock_of form) new new ≡ true
    → (is_triggered (clock_of form) old new ≡ true) × (triggered_words form (triggered_words form words new) new ≡ triggered_words form words new)
again (Flip D trigger) words old new good h = (level_before trigger (bit_at old 1) (bit_at new 1) h, refl)
again (Flip T trigger) words old new good h = absurd (no_edge trigger (bit_at new 1) good h)
again (Flip Jk trigger) words old new good h = absurd (no_edge trigger (bit_at new 2) good h)
again (Flip Sr trigger) words old new good h = (
  level_before trigger (bit_at old 2) (bit_at new 2) h,
  ap (λ b. (b ∷ []) ∷ []) (sr_again (bit_at words 0) (bit_at new 0) (bit_at new 1)),
)
again (Register width trigger) words old new good h = (
  level_before trigger (bit_at old 2) (bit_at new 2) h,
  ap (λ w. w ∷ []) (registered_again (word_at words 0) (word_at new 0) (bit_at new 1)),
)
again (Counter width max goal trigger) words old new good h = absurd (no_edge trigger (bit_at new 4) good.2 h)
again (Shift width stages parallel trigger) words old new good h = absurd (no_edge trigger (bit_at new 2) good.2 h)
again (Rom address width contents) words old new good h = absurd (cc h)
again (Ram address width trigger) words old new good h = absurd (no_edge trigger (bit_at new 3) good.1 h)

after_again : (clear preset before now : Bool) (form : StateForm) (words new : List Word)
    → (now ≡ true → (before ≡ true) × (triggered_words form (triggered_words form words new) new ≡ triggered_words form words new))
    → words_after (event_of clear preset now) form (words_after (event_of clear preset before) form words new) new
    ≡ words_after (event_of clear preset before) form words new
after_again true preset before now form words new h = refl
after_again false true before now form words new h = refl
after_again false false before false form words new h = refl
after_again false false true true form words new h = (h refl).1
after_again false false false true form words new h = absurd (cc (h refl).0)

-- a step that repeats its inputs changes nothing
pub stepped-stepped : (form : StateForm) (words old new : List Word) → IsForm form → stepped form (stepped form words old new) new new ≡ stepped form words old new
stepped-stepped form words old new good =
    after_again (is_one (clear_of form) new) (is_one (preset_of form) new) (is_triggered (clock_of form) old new) (is_triggered (clock_of form) new new) form words new
    (again form words old new good)

-- a step without trigger, clear and preset keeps the words
stepped_rest : (clear preset now : Bool) (form : StateForm) (words new : List Word) → clear ≡ false → preset ≡ false → now ≡ false → words_after (event_of clear preset now) form words new ≡ words
stepped_rest true preset now form words new c p t = absurd (cc c)
stepped_rest false true now form words new c p t = absurd (cc p)
stepped_rest false false true form words new c p t = absurd (cc t)
stepped_rest false false false form words new c p t = refl

pub stepped-untriggered : (form : StateForm) (words old new : List Word) → is_one (clear_of form) new ≡ false → is_one (preset_of form) new ≡ false → is_triggered (clock_of form) old new ≡ false → stepped form words old new ≡ words
stepped-untriggered form words old new =
    stepped_rest (is_one (clear_of form) new) (is_one (preset_of form) new) (is_triggered (clock_of form) old new) form words new

pub no_rise : (a b : Bit) → ¬ ((a ≡ Zero) × (b ≡ One)) → triggers Rising a b ≡ false
no_rise Zero One h = absurd (h (refl, refl))
no_rise _ _ h = refl

pub no_fall : (a b : Bit) → ¬ ((a ≡ One) × (b ≡ Zero)) → triggers Falling a b ≡ false
no_fall One Zero h = absurd (h (refl, refl))
no_fall _ _ h = refl

-- only a ROM has no clock, and it has neither clear nor preset
pub stepped-unclocked : (form : StateForm) (words old new : List Word) → clock_of form ≡ None → stepped form words old new ≡ words
stepped-unclocked (Rom address width contents) words old new h = refl
stepped-unclocked _ words old new h = absurd (cc h)
