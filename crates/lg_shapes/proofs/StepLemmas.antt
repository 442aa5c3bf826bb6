-- Steps of every shape.
use Rattle.std.proofs.Common.{◌≡◌, ℕ, List, length, map, refl, Option, None}
use Rattle.std.specs.List.{All}
use Rattle.lg_value.specs.Word.{IsDefined}
use Rattle.lg_memory.specs.Inputs.{Word}
use Rattle.lg_memory.specs.Shape.{FitsInputs}
use Rattle.lg_memory.proofs.RepeatLemmas.{stepped-stepped}
use Rattle.lg_memory.proofs.DefinedLemmas.{stepped-defined}
use Rattle.lg_memory.proofs.WidthLemmas.{AreHeld-stepped}
use Rattle.lg_shapes.specs.declared.shape.Shape.{Shape}
use Rattle.lg_shapes.specs.declared.shape.Shape.TheVariants.{Wiring, Gate, Plexer, Arithmetic, Memory}
use Rattle.lg_memory.specs.declared.form.StateForm.TheVariants.{Flip, Register, Counter, Shift, Rom, Ram}
use Rattle.lg_memory.specs.declared.state.State.{State}
use Rattle.lg_memory.specs.declared.state.State.TheVariants.{None as NoWord, One as OneWord, Many as ManyWords}
use Rattle.lg_shapes.specs.Shapes.{IsShape, HasState, AreHeld, input_widths, stepped}
use Rattle.lg_shapes.specs.Reads.{clock_of}

pub step_repeated : (shape : Shape) (words old new : List Word) → IsShape shape → stepped shape (stepped shape words old new) new new ≡ stepped shape words old new
step_repeated (Wiring part) words old new good = refl
step_repeated (Gate gate) words old new good = refl
step_repeated (Plexer plexer) words old new good = refl
step_repeated (Arithmetic part) words old new good = refl
step_repeated (Memory form) words old new good = stepped-stepped form words old new good

pub step_defined : (shape : Shape) (words old new : List Word) → AreHeld shape words → map length new ≡ input_widths shape → All IsDefined words → All IsDefined new → All IsDefined (stepped shape words old new)
step_defined (Wiring part) words old new held fits h k = h
step_defined (Gate gate) words old new held fits h k = h
step_defined (Plexer plexer) words old new held fits h k = h
step_defined (Arithmetic part) words old new held fits h k = h
step_defined (Memory form) words old new held fits h k = stepped-defined form words old new held (record { widths = fits }) h k

pub step_held : (shape : Shape) (words old new : List Word) → AreHeld shape words → map length new ≡ input_widths shape → AreHeld shape (stepped shape words old new)
step_held (Wiring part) words old new held fits = held
step_held (Gate gate) words old new held fits = held
step_held (Plexer plexer) words old new held fits = held
step_held (Arithmetic part) words old new held fits = held
step_held (Memory form) words old new held fits = AreHeld-stepped form words old new held (record { widths = fits })

-- what has no clock holds nothing
pub stateless : (shape : Shape) (state : State) → clock_of shape ≡ None → HasState shape state → state ≡ NoWord
stateless (Wiring part) state h k = k
stateless (Gate gate) state h k = k
stateless (Plexer plexer) state h k = k
stateless (Arithmetic part) state h k = k
stateless (Memory (Flip kind trigger)) state h k = absurd (cc h)
stateless (Memory (Register width trigger)) state h k = absurd (cc h)
stateless (Memory (Counter width max goal trigger)) state h k = absurd (cc h)
stateless (Memory (Shift width stages parallel trigger)) state h k = absurd (cc h)
stateless (Memory (Rom address width words)) NoWord h k = refl
stateless (Memory (Rom address width words)) (OneWord word) h k = absurd k
stateless (Memory (Rom address width words)) (ManyWords held) h k = absurd k
stateless (Memory (Ram address width trigger)) state h k = absurd (cc h)
