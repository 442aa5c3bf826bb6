-- The words of the command line, and what they ask for.
use Rattle.std.specs.Prelude.{ℕ, ◌==◌, Bool, false, ◌&&◌, not, List, [], ◌∷◌, map, Option, Some, None, option_and_then, if◌then◌else◌, codes, String, string_bytes}
use Rattle.std.specs.declared.alloc.Global.{Global}
use Rattle.std.specs.Str.{bytes_eq}
use Rattle.lg_run.specs.declared.words.Asked.{Asked}
use Rattle.lg_run.specs.declared.words.Asked.TheVariants as asked
use Rattle.lg_run.specs.declared.words.Verb.{Verb}
use Rattle.lg_run.specs.declared.words.Verb.TheVariants as verb

-- the words as their bytes
abbrev pub words_of : List (String Global) → List (List ℕ)
words_of words = map string_bytes words

-- what the words ask for
pub data Command : Type 0 where
  -- the module of the circuit in this project file
  Export : (file : List ℕ) → Command
  -- the outputs of the module in one file on the rows in another
  Vrun : (of_module of_rows : List ℕ) → Command

-- a word that can be a positional: it is not empty and does not begin with `-`
abbrev pub is_positional : List ℕ → Bool
is_positional [] = false
is_positional (c ∷ cs) = not (c == 45)

-- the verb of a word
abbrev pub verb_of : List ℕ → Option Verb
verb_of word = if bytes_eq word (codes "export") then Some verb.Export else (if bytes_eq word (codes "vrun") then Some verb.Vrun else None)

-- the command of a verb on its files, each a positional; and none for more or fewer than it has
abbrev pub command_on : Verb → List (List ℕ) → Option Command
command_on verb.Export (file ∷ []) = if is_positional file then Some (Export file) else None
command_on verb.Vrun (of_module ∷ of_rows ∷ []) = if is_positional of_module && is_positional of_rows then Some (Vrun of_module of_rows) else None
command_on _ _ = None

-- the command of a verb's word and files, and none for other words
abbrev pub command_of : List (List ℕ) → Option Command
command_of [] = None
command_of (word ∷ files) = option_and_then (λ verb. command_on verb files) (verb_of word)

-- the command that was read, where there is one
abbrev pub command : Asked → Command
command (asked.Export file) = Export file.now
command (asked.Vrun of_module of_rows) = Vrun of_module.now of_rows.now

abbrev pub asks : Option Asked → Option Command
asks None = None
asks (Some a) = Some (command a)
