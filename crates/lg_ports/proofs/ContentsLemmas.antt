-- Texts that are read piece by piece.
use Rattle.std.proofs.Common.{◌≡◌, ◌≢◌, ◌∙◌, sym, ap, subst, ℕ, ◌*◌, ◌%◌, ◌^◌, ◌≤◌, ◌↔◌, Bool, List, length, ◌∷◌, ◌++◌, Option, Some, None, inl, inr, arith}
use Rattle.std.specs.Prelude.{codes, MatchOption, IsTrue}
use Rattle.std.proofs.Math.Pow.{pow_mono}
use Rattle.lg_memory.specs.Form.{IsStoreSize}
use Rattle.lg_memory.specs.Image.{HasWords}
use Rattle.std.proofs.lemmas.List.{append_cancel_left}
use denote.Bor.{Bor}
use Rattle.lg_ports.specs.Contents.{Then, Marked, Numbered, EndsLine, HasWidths, HasContents, IsContents}

-- a form leaves one rest
abbrev pub OneRest : (List ℕ → List ℕ → Type 0) → Type 0
OneRest R = (text a b : List ℕ) → R text a → R text b → a ≡ b

pub one_marked : (mark : List ℕ) → OneRest (Marked mark)
one_marked mark text a b p q = append_cancel_left mark a b (sym p ∙ q)

pub one_numbered : (n : ℕ) → OneRest (Numbered n)
one_numbered n text a b p q = p.1 ∙ sym q.1

line_apart : (text a b : List ℕ) → text ≡ codes "\n" ++ a → text ≡ codes "\r\n" ++ b → ⊥
line_apart text a b p q = apart a b (sym p ∙ q)
  where
    apart : (a b : List ℕ) → 10 ∷ a ≡ 13 ∷ 10 ∷ b → ⊥
    apart a b h = cc

pub one_line : OneRest EndsLine
one_line text a b (inl p) (inl q) = append_cancel_left (codes "\n") a b (sym p ∙ q)
one_line text a b (inl p) (inr q) = absurd (line_apart text a b p q)
one_line text a b (inr p) (inl q) = absurd (line_apart text b a q p)
one_line text a b (inr p) (inr q) = append_cancel_left (codes "\r\n") a b (sym p ∙ q)

pub one_then : (R S : List ℕ → List ℕ → Type 0) → OneRest R → OneRest S → OneRest (Then R S)
one_then R S r s text a b p q =
    let same : p.0 ≡ q.0 = r text p.0 q.0 p.1 q.1 in
    s q.0 a b (subst (λ m. S m a) same p.2) q.2

-- the first line leaves one rest
pub one_widths : (address width : ℕ) → OneRest (HasWidths address width)
one_widths address width =
    one_then (Marked (codes "addr/data: ")) (Then (Numbered address) (Then (Marked (codes " ")) (Then (Numbered width) EndsLine))) (one_marked (codes "addr/data: "))
    (one_then (Numbered address) (Then (Marked (codes " ")) (Then (Numbered width) EndsLine)) (one_numbered address)
    (one_then (Marked (codes " ")) (Then (Numbered width) EndsLine) (one_marked (codes " "))
    (one_then (Numbered width) EndsLine (one_numbered width) one_line)))

-- what is read in two pieces
pub then_read : (R S : List ℕ → List ℕ → Type 0) → OneRest R → (text middle : List ℕ) (o : Option (Bor (List ℕ))) → R text middle → MatchOption o ((rest : List ℕ) → S middle rest → ⊥) (λ rest. S middle rest.now) → MatchOption o ((rest : List ℕ) → Then R S text rest → ⊥) (λ rest. Then R S text rest.now)
then_read R S one text middle None here none =
    λ rest h. none rest (subst (λ m. S m rest) (one text h.0 middle h.1 here) h.2)
then_read R S one text middle (Some r) here some = (middle, here, some)

-- the first piece is not there
pub then_refused : (R S : List ℕ → List ℕ → Type 0) (text : List ℕ) → ((middle : List ℕ) → R text middle → ⊥) → (rest : List ℕ) → Then R S text rest → ⊥
then_refused R S text none rest h = none h.0 h.1

-- how many addresses there are, as the code computes it
pub addresses : (address : ℕ) → address ≤ 24 → 1 * 2 ^ address % 4294967296 ≡ 2 ^ address
addresses address small = let most : 2 ^ address ≤ 2 ^ 24 = pow_mono small in omega (arith, most)

-- behind the first line there are words
pub contents_read : (address width most : ℕ) (text rest : List ℕ) (b : Bool) → IsStoreSize address width → HasWidths address width text rest → most ≡ 2 ^ address → (IsTrue b ↔ ((all : List ℕ) × HasWords (2 ^ width) rest all × (length all ≤ most))) → IsTrue b ↔ HasContents address width text
contents_read address width most text rest b sizes widths is_most h = (
  λ t. record { sizes = sizes; rest = rest; words = (h.0 t).0; widths = widths; has_words = (h.0 t).1; fit = subst (λ m. length (h.0 t).0 ≤ m) is_most (h.0 t).2 },
  λ k. h.1 (k.words, subst (λ r. HasWords (2 ^ width) r k.words) (one_widths address width text k.rest rest k.widths widths) k.has_words, subst (λ m. length k.words ≤ m) (sym is_most) k.fit),
)

-- what the words of a ROM's contents are, once its first line is read
pub words_read : (address width : ℕ) (text rest : List ℕ) (P : List ℕ → Type 0) → IsContents address width text → length text ≢ 0 → HasWidths address width text rest → ((all : List ℕ) → HasWords (2 ^ width) rest all → length all ≤ 2 ^ address → P all) → (contents : HasContents address width text) × P contents.words
words_read address width text rest P (inl e) some here read = absurd (some (ap length e))
words_read address width text rest P (inr contents) some here read =
    let same : contents.rest ≡ rest = one_widths address width text contents.rest rest contents.widths here in
    (contents, read contents.words (subst (λ (r : List ℕ). HasWords (2 ^ width) r contents.words) same contents.has_words) contents.fit)

-- its first line is there
pub widths_there : (address width : ℕ) (text : List ℕ) → IsContents address width text → length text ≢ 0 → ((rest : List ℕ) → HasWidths address width text rest → ⊥) → ⊥
widths_there address width text (inl e) some none = some (ap length e)
widths_there address width text (inr contents) some none = none contents.rest contents.widths

-- its sizes are in their ranges
pub sizes_of : (address width : ℕ) (text : List ℕ) → IsContents address width text → length text ≢ 0 → IsStoreSize address width
sizes_of address width text (inl e) some = absurd (some (ap length e))
sizes_of address width text (inr contents) some = contents.sizes
