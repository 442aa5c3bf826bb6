-- Words that are counted and not kept.
use Rattle.std.proofs.Common.{◌≡◌, ℕ, ◌+◌, ◌<◌, ◌≤◌, true, false, List, [], ◌++◌, length, take, drop, refl, ap, arith, replicate, length-append}
use Rattle.std.proofs.lemmas.List.{length-replicate}
use Rattle.lg_memory.specs.declared.run.Run.{Run}
use Rattle.lg_memory.specs.Image.{IsRun, HasWords}
use Rattle.lg_memory.specs.Scan.{after_gap, Keeps}
use Rattle.lg_memory.proofs.ImageLemmas.{IsReading, reading_begins, reading_more, reading_bad, reading_kept, word_size}

-- what is known of a text behind some of its words: they would be these, and so many
pub record IsCounting (bound limit : ℕ) (text rest : List ℕ) (count : ℕ) : Type 0 where
  pub kept : List ℕ
  pub reading : IsReading bound limit text kept false rest
  pub counted : count ≡ length kept

pub counting_begins : (bound limit : ℕ) (text rest : List ℕ) → rest ≡ after_gap false text → IsCounting bound limit text rest 0
counting_begins bound limit text rest e = record { kept = []; reading = reading_begins bound limit text [] rest refl e; counted = refl }

keeps_run : (limit : ℕ) (kept : List ℕ) (run : Run) (words : List ℕ) → length kept + run.count ≤ limit → Keeps limit kept false words → Keeps limit (kept ++ replicate run.count run.value) false (words ++ replicate run.count run.value)
keeps_run limit kept run words fits k =
    (ap (λ l. l ++ replicate run.count run.value) k.0, omega (arith, ap length k.0, length-append words (replicate run.count run.value), length-replicate run.count run.value))

-- one run more
pub counting_more : (bound limit : ℕ) (text rest word after rest' : List ℕ) (count count' size : ℕ) (run : Run) → IsCounting bound limit text rest count → 1 ≤ length rest → size ≡ word_size rest → word ≡ take size rest → after ≡ drop size rest → IsRun bound word run → count' ≡ count + run.count → count' ≤ limit → rest' ≡ after_gap false after → IsCounting bound limit text rest' count'
counting_more bound limit text rest word after rest' count count' size run h some is_size is_word is_after is_run more fits e =
    let fits' : length h.kept + run.count ≤ limit = omega (arith, h.counted) in
    record {
      kept = h.kept ++ replicate run.count run.value;
      reading = reading_more bound limit text h.kept (h.kept ++ replicate run.count run.value) false false rest word after rest' size run h.reading some is_size is_word is_after is_run (λ words k. keeps_run limit h.kept run words fits' k) e;
      counted = omega (arith, h.counted, length-append h.kept (replicate run.count run.value), length-replicate run.count run.value);
    }

loses_run : (limit : ℕ) (kept : List ℕ) (run : Run) (words : List ℕ) → limit < length kept + run.count → Keeps limit kept false words → Keeps limit kept true (words ++ replicate run.count run.value)
loses_run limit kept run words past k =
    omega (arith, ap length k.0, length-append words (replicate run.count run.value), length-replicate run.count run.value)

-- too many words, whatever follows
pub counting_over : (bound limit : ℕ) (text rest word after : List ℕ) (count size : ℕ) (run : Run) → IsCounting bound limit text rest count → 1 ≤ length rest → size ≡ word_size rest → word ≡ take size rest → after ≡ drop size rest → IsRun bound word run → limit < count + run.count → (all : List ℕ) → HasWords bound text all → length all ≤ limit → ⊥
counting_over bound limit text rest word after count size run h some is_size is_word is_after is_run past all has few =
    let past' : limit < length h.kept + run.count = omega (arith, h.counted) in
    let over : IsReading bound limit text h.kept true (after_gap false after) = reading_more bound limit text h.kept h.kept false true rest word after (after_gap false after) size run h.reading some is_size is_word is_after is_run (λ words k. loses_run limit h.kept run words past' k) refl in
    let goes = over.on.only all has in
    omega (arith, over.keeps, ap length goes.2, length-append over.words goes.0)

-- no words
pub counting_bad : (bound limit : ℕ) (text rest word : List ℕ) (count size : ℕ) → IsCounting bound limit text rest count → 1 ≤ length rest → size ≡ word_size rest → word ≡ take size rest → ((run : Run) → IsRun bound word run → ⊥) → (all : List ℕ) → HasWords bound text all → ⊥
counting_bad bound limit text rest word count size h some is_size is_word none = reading_bad bound limit text h.kept false rest word size h.reading some is_size is_word none

-- all words
pub counting_ends : (bound limit : ℕ) (text rest : List ℕ) (count : ℕ) → IsCounting bound limit text rest count → rest ≡ [] → (all : List ℕ) × HasWords bound text all × (length all ≤ limit)
counting_ends bound limit text rest count h none =
    let end = reading_kept bound limit text h.kept false rest h.reading refl none in
    (h.kept, end.0, end.1)
