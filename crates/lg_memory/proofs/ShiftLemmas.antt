-- Stages that are shifted in place, from stage 0 on.
use Rattle.std.proofs.Common.{◌≡◌, ℕ, suc, ◌+◌, ◌<◌, List, [], ◌∷◌, length, get_or, set, take, drop, sym, ◌∙◌, arith, add-one, drop-cons, length-set}
use Rattle.std.proofs.lemmas.List.{take_more, take_more_set, drop-set-lt}
use Rattle.lg_memory.specs.Inputs.{Word}

-- The stages up to one hold what they take, those from it on what they held, and its new word is at hand.
pub record IsShiftedUpTo (si : Word) (initial now : List Word) (stage : ℕ) (carried : Word) : Type 0 where
  pub length_kept : length now ≡ length initial
  pub moved : take stage now ≡ take stage (si ∷ initial)
  pub ahead : drop stage now ≡ drop stage initial
  pub next : get_or (si ∷ initial) stage [] ≡ carried

-- one stage more
pub shift_step : (si carried held : Word) (initial now : List Word) (stage : ℕ) → stage < length now → IsShiftedUpTo si initial now stage carried → held ≡ get_or now stage [] → IsShiftedUpTo si initial (set now stage carried) (stage + 1) held
shift_step si carried held initial now stage inside before read =
    let within : stage < length initial = omega (arith, before.length_kept) in
    let old = drop-cons initial stage [] within in
    let new = drop-cons now stage [] inside in
    let joined : get_or now stage [] ∷ drop (suc stage) now ≡ get_or initial stage [] ∷ drop (suc stage) initial = sym new ∙ before.ahead ∙ old in
    let same : get_or now stage [] ≡ get_or initial stage [] = cc in
    let rest : drop (suc stage) now ≡ drop (suc stage) initial = cc in
    let written = take_more_set now stage carried inside in
    let more = take_more (si ∷ initial) stage [] (omega (arith, within)) in
    record {
      length_kept = length-set now stage carried ∙ before.length_kept;
      moved = cc (written, more, before.moved, before.next);
      ahead = drop-set-lt (stage + 1) now stage carried (omega arith) ∙ rw add-one rest;
      next = rw add-one (sym same ∙ sym read);
    }
