-- What the steps of a command answer is what is due for its words.
use Rattle.std.proofs.Common.{◌≡◌, ℕ, List, [], ◌++◌, Option, Some, None, refl, sym, ap, subst, ◌∙◌, inl, inr}
use Rattle.std.specs.Prelude.{IfSome, option_map}
use Rattle.std.proofs.lemmas.List.{append-nil}
use Rattle.std.proofs.lemmas.Option.{same_Some}
use Rattle.lg_io.specs.Files as files
use Rattle.lg_io.specs.Sink.{Seen, Took, Said}
use Rattle.lg_run.specs.declared.status.Status.{Status}
use Rattle.lg_run.specs.declared.status.Status.TheVariants as status
use Rattle.lg_run.specs.declared.stop.Stop.{Stop}
use Rattle.lg_run.specs.declared.stop.Stop.TheVariants as stop
use Rattle.lg_run.specs.Answered.{StopsRightly, FailsRightly}
use Rattle.lg_run.specs.Contents.{Held}
use Rattle.lg_run.specs.Due.{Due, Writes, Stops, IsCommandDue, IsDueFor, IsDue, AgreesFor}
use Rattle.lg_run.specs.Lines.{status_of, line_of}
use Rattle.lg_run.specs.Outcome.{Ends, Follows, WroteDue, WrotePrefix, AgreesAsAsked, IsDueLine, IsLine, SaidLine}
use Rattle.lg_run.specs.Words.{Command, command_of}
use Rattle.lg_run.proofs.OneDue.{same_due}

-- what is due for the command is due for its words
due_for : (words : List (List ℕ)) (c : Command) (told : Option Held) (due : Due) → command_of words ≡ Some c → IsCommandDue c told due → IsDue words told due
due_for words c told due asked h = subst (λ (o : Option Command). IsDueFor o told due) (sym asked) h

-- the text that is due and what belongs to it
abbrev pub IsAsked : Option Held → Command → List ℕ → Type 0
IsAsked told c text = IsCommandDue c told (Writes status.Done text) × AgreesFor c told text

pub done_written : (told : Option Held) (words : List (List ℕ)) (c : Command) (text : List ℕ) (s : Status) (before after : Seen) → command_of words ≡ Some c → IsAsked told c text → Ends s before after text → s ≡ status.Done
    → WroteDue words told s before after
done_written told words c text s before after asked h ends e =
    let took : Took before after text = subst (λ (x : Status). Ends x before after text) e ends in
    subst (λ (x : Status). WroteDue words told x before after) (sym e) (record { text = text; due = due_for words c told (Writes status.Done text) asked h.0; took = took })

pub agrees_written : (told : Option Held) (words : List (List ℕ)) (c : Command) (text : List ℕ) (s : Status) (before after : Seen) → command_of words ≡ Some c → IsAsked told c text → Ends s before after text → s ≡ status.Done
    → AgreesAsAsked words told before after
agrees_written told words c text s before after asked h ends e = λ other asks.
    let same : c ≡ other = same_Some c other (sym asked ∙ asks) in
    record { text = text; agrees = subst (λ (c : Command). AgreesFor c told text) same h.1; took = subst (λ (x : Status). Ends x before after text) e ends }

pub prefix_written : (told : Option Held) (words : List (List ℕ)) (c : Command) (text : List ℕ) (s : Status) (before after : Seen) → command_of words ≡ Some c → IsAsked told c text → Ends s before after text → s ≡ status.WriteFault
    → WrotePrefix words told before after
prefix_written told words c text s before after asked h ends e =
    let failed : Ends status.WriteFault before after text = subst (λ (x : Status). Ends x before after text) e ends in
    record { status = status.Done; text = text; due = due_for words c told (Writes status.Done text) asked h.0; took = failed.0 }

follows_written : (text : List ℕ) (s : Status) (files_before files_after : files.Seen) (before after : Seen) → Ends s before after text → Follows (Writes status.Done text) s files_before files_after before after
follows_written text status.Done files_before files_after before after ends = inl refl
follows_written text status.WriteFault files_before files_after before after ends = inr (inr (inr ends.1))
follows_written text status.Usage files_before files_after before after ends = absurd ends
follows_written text status.Input files_before files_after before after ends = absurd ends
follows_written text status.NotAccepted files_before files_after before after ends = absurd ends
follows_written text status.ReadFault files_before files_after before after ends = absurd ends
follows_written text status.Memory files_before files_after before after ends = absurd ends

-- after a text was written, or a part of it, that text is what is due
pub complete_written : (told : Option Held) (words : List (List ℕ)) (c : Command) (text : List ℕ) (s : Status) (files_before files_after : files.Seen) (before after : Seen) → command_of words ≡ Some c → IsAsked told c text → Ends s before after text
    → IfSome told (λ held. (due : Due) → IsDue words (Some held) due → Follows due s files_before files_after before after)
complete_written None words c text s files_before files_after before after asked h ends = tt
complete_written (Some held) words c text s files_before files_after before after asked h ends = λ due is_due.
    subst (λ (due : Due). Follows due s files_before files_after before after)
    (same_due words held (Writes status.Done text) due (due_for words c (Some held) (Writes status.Done text) asked h.0) is_due) (follows_written text s files_before files_after before after ends)

-- after a write nothing was said, or that it failed
pub said_written : (told : Option Held) (words : List (List ℕ)) (s : Status) (out_before out_after before after : Seen) (text : List ℕ) → Ends s out_before out_after text → (s ≡ status.Done → after ≡ before)
    → (s ≡ status.WriteFault → Said before after (line_of stop.WriteFault [])) → SaidLine words told s before after
said_written told words status.Done out_before out_after before after text ends quiet said =
    record { line = []; is_line = refl; said = inl (subst (λ (x : Seen). Took before x []) (sym (quiet refl)) (nothing before.taken)) }
  where
    nothing : (taken : Option (List ℕ)) → taken ≡ option_map (λ (t : List ℕ). t ++ []) taken
    nothing None = refl
    nothing (Some t) = ap (λ (x : List ℕ). Some x) (sym (append-nil t))
said_written told words status.WriteFault out_before out_after before after text ends quiet said = record { line = line_of stop.WriteFault []; is_line = refl; said = said refl }
said_written told words status.Usage out_before out_after before after text ends quiet said = absurd ends
said_written told words status.Input out_before out_after before after text ends quiet said = absurd ends
said_written told words status.NotAccepted out_before out_after before after text ends quiet said = absurd ends
said_written told words status.ReadFault out_before out_after before after text ends quiet said = absurd ends
said_written told words status.Memory out_before out_after before after text ends quiet said = absurd ends

abbrev pub StopsFor : files.Seen → files.Seen → Command → List ℕ → Stop → Type 0
StopsFor before after c about why = StopsRightly before after (λ why. IsCommandDue c before.held (Stops why about)) why

-- after a stop the due one, or memory ran out, or a count rose
pub complete_stopped : (words : List (List ℕ)) (c : Command) (about : List ℕ) (files_before files_after : files.Seen) (before after : Seen) (why : Stop) (s : Status) → command_of words ≡ Some c → s ≡ status_of why
    → StopsFor files_before files_after c about why → IfSome files_before.held (λ held. (due : Due) → IsDue words (Some held) due → Follows due s files_before files_after before after)
complete_stopped words c about files_before files_after before after why s asked e stops = of files_before.held why e stops
  where
    due_stop : (held : Held) (why : Stop) (due : Due) → IsCommandDue c (Some held) (Stops why about) → IsDue words (Some held) due → Follows due (status_of why) files_before files_after before after
    due_stop held why due w k =
        subst (λ (due : Due). Follows due (status_of why) files_before files_after before after) (same_due words held (Stops why about) due (due_for words c (Some held) (Stops why about) asked w) k) (inl refl)

    of : (told : Option Held) (why : Stop) → s ≡ status_of why → StopsFor (record { held = told; faults = files_before.faults }) files_after c about why
        → IfSome told (λ held. (due : Due) → IsDue words (Some held) due → Follows due s files_before files_after before after)
    of None why e w = tt
    of (Some held) (stop.Input refusal) e w = λ due k. rw e (due_stop held (stop.Input refusal) due w k)
    of (Some held) (stop.NotAccepted reason) e w = λ due k. rw e (due_stop held (stop.NotAccepted reason) due w k)
    of (Some held) stop.ReadFault e w = λ due k. risen due
      where
        risen : (due : Due) → Follows due s files_before files_after before after
        risen (Writes d t) = inr (inr (inl w))
        risen (Stops d about) = inr (inr w)
    of (Some held) stop.Memory e w = λ due k. no_memory due
      where
        no_memory : (due : Due) → Follows due s files_before files_after before after
        no_memory (Writes d t) = inr (inl e)
        no_memory (Stops d about) = inr (inl e)
    of (Some held) stop.Usage e w = absurd w
    of (Some held) stop.WriteFault e w = absurd w

-- the line of a stop is that of the stop that is due
pub said_stopped : (words : List (List ℕ)) (c : Command) (about : List ℕ) (files_before files_after : files.Seen) (before after : Seen) (why : Stop) (s : Status) → command_of words ≡ Some c → s ≡ status_of why
    → StopsFor files_before files_after c about why → FailsRightly files_before.held c about why → Said before after (line_of why about) → SaidLine words files_before.held s before after
said_stopped words c about files_before files_after before after why s asked e stops fails said =
    record { line = line_of why about; is_line = rw e (of why stops fails); said = said }
  where
    due_line : (why : Stop) → IsCommandDue c files_before.held (Stops why about) → IsDueLine words files_before.held (status_of why) (line_of why about)
    due_line why due = record { why = why; file = about; due = due_for words c files_before.held (Stops why about) asked due; of_status = refl; of_stop = refl }

    of : (why : Stop) → StopsFor files_before files_after c about why → FailsRightly files_before.held c about why → IsLine words files_before.held (status_of why) (line_of why about)
    of (stop.Input refusal) w fails = due_line (stop.Input refusal) w
    of (stop.NotAccepted reason) w fails = due_line (stop.NotAccepted reason) w
    of stop.ReadFault w fails = record { command = c; file = about; asked = asked; reads = fails; of_stop = refl }
    of stop.Memory w fails = refl
    of stop.Usage w fails = absurd w
    of stop.WriteFault w fails = absurd w
