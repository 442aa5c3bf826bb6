-- The forms of parts with a state, and the ranges of their numbers. Source: the library reference of
-- Logisim-evolution, Memory Library; the ranges are this project's.
use Rattle.std.specs.Prelude.{ℕ, ◌≡◌, ◌^◌, ◌<◌, ◌≤◌, ◌⊎◌, length, All}
use Rattle.lg_value.specs.Word.{IsWidth}
use Rattle.lg_memory.specs.declared.form.Trigger.{Trigger}
use Rattle.lg_memory.specs.declared.form.Trigger.TheVariants.{Rising, Falling}
use Rattle.lg_memory.specs.declared.form.FlipKind.{FlipKind}
use Rattle.lg_memory.specs.declared.form.FlipKind.TheVariants.{T, Jk}
use Rattle.lg_memory.specs.declared.form.StateForm.{StateForm}
use Rattle.lg_memory.specs.declared.form.StateForm.TheVariants.{Flip, Register, Counter, Shift, Rom, Ram}

-- a rising or a falling edge, and no level
abbrev pub IsEdge : Trigger → Type 0
IsEdge trigger = (trigger ≡ Rising) ⊎ (trigger ≡ Falling)

-- D and S-R flip-flops take each trigger, T and J-K flip-flops an edge
abbrev pub TakesTrigger : FlipKind → Trigger → Type 0
TakesTrigger T trigger = IsEdge trigger
TakesTrigger Jk trigger = IsEdge trigger
TakesTrigger _ trigger = Unit

-- a memory has 1 to 24 address bits and words of 1 to 64 bits
abbrev pub IsStoreSize : ℕ → ℕ → Type 0
IsStoreSize address width = (1 ≤ address) × (address ≤ 24) × IsWidth width

-- a form whose numbers and trigger are in their ranges
abbrev pub IsForm : StateForm → Type 0
IsForm (Flip kind trigger) = TakesTrigger kind trigger
IsForm (Register width trigger) = IsWidth width
IsForm (Counter width max goal trigger) = IsWidth width × (max < 2 ^ width) × IsEdge trigger
IsForm (Shift width stages parallel trigger) = IsWidth width × IsWidth stages × IsEdge trigger
IsForm (Rom address width words) = IsStoreSize address width × (length words ≤ 2 ^ address) × All (λ word. word < 2 ^ width) words
IsForm (Ram address width trigger) = IsStoreSize address width × IsEdge trigger
