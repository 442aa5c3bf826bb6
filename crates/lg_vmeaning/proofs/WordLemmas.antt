-- Registers and memories at the start: what is drawn from the declarations, and words that are put one after another, each into the memory of its name.
use Rattle.std.proofs.Common.{◌≡◌, ℕ, suc, ◌+◌, ◌<◌, ◌≤◌, nat_le, Bool, true, false, cond, ◌&&◌, List, [], ◌∷◌, ◌++◌, length, map, fold, take, get_or, Option, Some, None, refl, sym, ap, subst, ◌∙◌, append-nil, arith, rules}
use Rattle.std.specs.Prelude.{not, sum_by, option_map, option_and_then, unwrap_or, filter_map, replicate, slice_get, slice_set}
use Rattle.std.specs.List.{list_all}
use Rattle.std.specs.Str.{bytes_eq}
use Rattle.std.proofs.lemmas.Bool.{and_parts, false≢true}
use Rattle.std.proofs.lemmas.List.{take_more}
use Rattle.std.proofs.lemmas.List.Elements.{filter_map-append}
use Rattle.std.proofs.lemmas.List.Sums.{get_or-le-sum_by}
use Rattle.std.proofs.lemmas.Slice.Eq.{bytes_eq-Decides}
use Rattle.lg_vtree.specs.declared.module.Decl.{Decl}
use Rattle.lg_vtree.specs.declared.module.Decl.TheVariants as decl
use Rattle.lg_vtree.specs.declared.module.Fill.{Fill}
use Rattle.lg_vtree.specs.declared.module.Word.{Word}
use Rattle.lg_vtree.specs.declared.module.Module.{Module}
use Rattle.lg_vrules.specs.declared.indexes.Indexes.{Indexes}
use Rattle.lg_vrules.specs.Rules.{is_among, all_differ, words_of, fills_of, filled, decl_words, decl_is_whole, are_stored_once, are_filled_once, first_broken}
use Rattle.lg_vrules.specs.Things.{decl_thing, things, names, names_of, sort_of, is_memory}
use Rattle.lg_vrules.specs.Indexes.{index_under, KnowsIndexes}
use Rattle.lg_vrules.proofs.NameLemmas.{not_true}
use Rattle.lg_vrules.proofs.RuleLemmas.{rules_kept}
use Rattle.lg_vmachine.specs.Machine.{put_word}
use Rattle.lg_vmeaning.specs.declared.kept_names.Storage.TheVariants as storage
use Rattle.lg_vmeaning.specs.Rows.{filled_with, with_word, start_memory}
use Rattle.lg_vmeaning.specs.Starting.{filled_memory, filled_by, with_word_by}
use Rattle.lg_vmeaning.proofs.NameLemmas.{names_in, differ_in}
use Rattle.lg_vmeaning.proofs.RunLemmas.{all_differ_is}
use Rattle.lg_vmeaning.proofs.SortLemmas.{kept_lines, first_of_line}
use Rattle.lg_vmeaning.proofs.SpotLemmas.{spot, spot_is, same_names, found_at}

-- a memory with its name
abbrev Named : Type 0
Named = List ℕ × List ℕ

abbrev its_names : List Named → List (List ℕ)
its_names all = map (λ (p : Named). p.0) all

abbrev its_words : List Named → List (List ℕ)
its_words all = map (λ (p : Named). p.1) all

abbrev after : Word → Named → Named
after w p = (p.0, with_word p.0 p.1 w)

-- memories after a word at the index of one of them
abbrev put : Option ℕ → Word → List (List ℕ) → List (List ℕ)
put None w memories = memories
put (Some k) w memories = put_word memories k w.address w.value.value

put_later : (o : Option ℕ) (w : Word) (words : List ℕ) (memories : List (List ℕ)) → put (option_map suc o) w (words ∷ memories) ≡ words ∷ put o w memories
put_later None w words memories = refl
put_later (Some k) w words memories = refl

-- a word of another name changes nothing
untouched : (w : Word) (name : List ℕ) (words : List ℕ) → bytes_eq name w.name ≡ false → with_word name words w ≡ words
untouched w name words apart = step (bytes_eq w.name name) refl
  where
    step : (b : Bool) → bytes_eq w.name name ≡ b → cond b (slice_set words w.address w.value.value) words ≡ words
    step false e = refl
    step true e = absurd (false≢true (sym apart ∙ same_names w.name name e))

touched : (w : Word) (name : List ℕ) (words : List ℕ) → bytes_eq name w.name ≡ true → with_word name words w ≡ slice_set words w.address w.value.value
touched w name words same = let e : bytes_eq w.name name ≡ true = same_names name w.name same in rw e refl

none_touched : (w : Word) (all : List Named) → is_among w.name (its_names all) ≡ false → its_words (map (after w) all) ≡ its_words all
none_touched w [] fresh = refl
none_touched w (p ∷ all) fresh = step (bytes_eq p.0 w.name) refl fresh (none_touched w all)
  where
    step : (b : Bool) → bytes_eq p.0 w.name ≡ b → is_among w.name (its_names (p ∷ all)) ≡ false → (is_among w.name (its_names all) ≡ false → its_words (map (after w) all) ≡ its_words all)
        → its_words (map (after w) (p ∷ all)) ≡ its_words (p ∷ all)
    step true e fresh rest = absurd (false≢true (sym fresh ∙ (rw e refl)))
    step false e fresh rest =
        let here : with_word p.0 p.1 w ≡ p.1 = untouched w p.0 p.1 e in
        let more : is_among w.name (its_names all) ≡ false = (let f : is_among w.name (its_names (p ∷ all)) ≡ is_among w.name (its_names all) = rw e refl in sym f ∙ fresh) in
        (λ i. here i ∷ rest more i)

-- a word is put into the memory of its name
word_put : (all : List Named) (w : Word) → all_differ (its_names all) ≡ true → put (spot (its_names all) w.name) w (its_words all) ≡ its_words (map (after w) all)
word_put [] w differ = refl
word_put (p ∷ all) w differ =
    let both = and_parts (not (is_among p.0 (its_names all))) (all_differ (its_names all)) differ in
    step (bytes_eq p.0 w.name) refl (not_true (is_among p.0 (its_names all)) both.0) (word_put all w both.1)
  where
    step : (b : Bool) → bytes_eq p.0 w.name ≡ b → is_among p.0 (its_names all) ≡ false → put (spot (its_names all) w.name) w (its_words all) ≡ its_words (map (after w) all)
        → put (spot (its_names (p ∷ all)) w.name) w (its_words (p ∷ all)) ≡ its_words (map (after w) (p ∷ all))
    step true e fresh rest =
        let name : p.0 ≡ w.name = (bytes_eq-Decides p.0 w.name).0 e in
        let others : its_words (map (after w) all) ≡ its_words all = none_touched w all (ap (λ n. is_among n (its_names all)) (sym name) ∙ fresh) in
        let here : with_word p.0 p.1 w ≡ slice_set p.1 w.address w.value.value = touched w p.0 p.1 e in
        rw e (λ i. sym here i ∷ sym others i)
    step false e fresh rest =
        let here : with_word p.0 p.1 w ≡ p.1 = untouched w p.0 p.1 e in
        rw e (put_later (spot (its_names all) w.name) w p.1 (its_words all) ∙ (λ i. sym here i ∷ rest i))

abbrev after_all : List Word → Named → Named
after_all words p = (p.0, fold (with_word p.0) p.1 words)

names_stay : (w : Word) (all : List Named) → its_names (map (after w) all) ≡ its_names all
names_stay w [] = refl
names_stay w (p ∷ all) = ap (λ names. p.0 ∷ names) (names_stay w all)

together : (w : Word) (words : List Word) (all : List Named) → its_words (map (after_all words) (map (after w) all)) ≡ its_words (map (after_all (w ∷ words)) all)
together w words [] = refl
together w words (p ∷ all) = ap (λ more. fold (with_word p.0) (with_word p.0 p.1 w) words ∷ more) (together w words all)

all_untouched : (all : List Named) → its_words all ≡ its_words (map (after_all []) all)
all_untouched [] = refl
all_untouched (p ∷ all) = ap (λ more. p.1 ∷ more) (all_untouched all)

put_by : (indexes : Indexes) (names : List (List ℕ)) (memories : List (List ℕ)) (w : Word) → KnowsIndexes names indexes → with_word_by indexes memories w ≡ put (spot names w.name) w memories
put_by indexes names memories w knows = step (index_under indexes w.name) refl ∙ ap (λ o. put o w memories) (knows.known w.name ∙ spot_is names w.name)
  where
    step : (o : Option ℕ) → index_under indexes w.name ≡ o → with_word_by indexes memories w ≡ put (index_under indexes w.name) w memories
    step None e = rw e refl
    step (Some k) e = rw e refl

words_put : (indexes : Indexes) (all : List Named) (words : List Word) → KnowsIndexes (its_names all) indexes → all_differ (its_names all) ≡ true
    → fold (with_word_by indexes) (its_words all) words ≡ its_words (map (after_all words) all)
words_put indexes all [] knows differ = all_untouched all
words_put indexes all (w ∷ words) knows differ =
    let names : its_names all ≡ its_names (map (after w) all) = sym (names_stay w all) in
    ap (λ memories. fold (with_word_by indexes) memories words) (put_by indexes (its_names all) (its_words all) w knows ∙ word_put all w differ)
    ∙ (words_put indexes (map (after w) all) words (subst (λ n. KnowsIndexes n indexes) names knows) (ap all_differ (sym names) ∙ differ)
    ∙ together w words all)

-- the memories of declarations, filled
abbrev filled_named : Module → Decl → Option Named
filled_named m (decl.Memory range name last) = Some (name, replicate (last + 1) (filled_with m name))
filled_named m (decl.Wire range name) = None
filled_named m (decl.Reg range name start) = None

named_words : (m : Module) (decls : List Decl) → filter_map (filled_memory m) decls ≡ its_words (filter_map (filled_named m) decls)
named_words m [] = refl
named_words m (decl.Wire range name ∷ decls) = named_words m decls
named_words m (decl.Reg range name start ∷ decls) = named_words m decls
named_words m (decl.Memory range name last ∷ decls) = ap (λ more. replicate (last + 1) (filled_with m name) ∷ more) (named_words m decls)

named_start : (m : Module) (decls : List Decl) → its_words (map (after_all (words_of m)) (filter_map (filled_named m) decls)) ≡ filter_map (start_memory m) decls
named_start m [] = refl
named_start m (decl.Wire range name ∷ decls) = named_start m decls
named_start m (decl.Reg range name start ∷ decls) = named_start m decls
named_start m (decl.Memory range name last ∷ decls) = ap (λ more. fold (with_word name) (replicate (last + 1) (filled_with m name)) (words_of m) ∷ more) (named_start m decls)

named_names : (m : Module) (decls : List Decl) → its_names (filter_map (filled_named m) decls) ≡ names_in is_memory (map decl_thing decls)
named_names m [] = refl
named_names m (decl.Wire range name ∷ decls) = named_names m decls
named_names m (decl.Reg range name start ∷ decls) = named_names m decls
named_names m (decl.Memory range name last ∷ decls) = ap (λ more. name ∷ more) (named_names m decls)

-- filled memories with the words of the init are the memories at the start
pub start_memories : (m : Module) (indexes : Indexes) → KnowsIndexes (names_of is_memory m) indexes → all_differ (names_of is_memory m) ≡ true
    → fold (with_word_by indexes) (filter_map (filled_memory m) m.decls) (words_of m) ≡ filter_map (start_memory m) m.decls
start_memories m indexes knows differ =
    let named = filter_map (filled_named m) m.decls in
    let names : names_of is_memory m ≡ its_names named = ap (map first_of_line) (kept_lines storage.Memory m) ∙ sym (named_names m m.decls) in
    ap (λ memories. fold (with_word_by indexes) memories (words_of m)) (named_words m m.decls)
    ∙ (words_put indexes named (words_of m) (subst (λ n. KnowsIndexes n indexes) names knows) (ap all_differ (sym names) ∙ differ) ∙ named_start m m.decls)

-- the number that fills the memory of a name
pub filled_is : (m : Module) (indexes : Indexes) (name : List ℕ) → KnowsIndexes (filled m) indexes → filled_by indexes (fills_of m) name ≡ filled_with m name
filled_is m indexes name knows =
    ap (λ (o : Option Fill). unwrap_or (option_map (λ (f : Fill). f.value.value) o) 0)
    (ap (λ (o : Option ℕ). option_and_then (slice_get (fills_of m)) o) (knows.known name) ∙ found_at (λ (f : Fill). f.name) (fills_of m) name)

-- what the rules say of memories

-- no two memories have one name
pub memories_differ : (m : Module) → first_broken m ≡ None → all_differ (names_of is_memory m) ≡ true
memories_differ m broken =
    let differ : all_differ (names m) ≡ true = (and_parts (all_differ (names m)) _ (rules_kept m broken).named).0 in
    all_differ_is (names_of is_memory m) (differ_in is_memory (things m) differ)

-- no two fills have one name
pub fills_differ : (m : Module) → first_broken m ≡ None → all_differ (filled m) ≡ true
fills_differ m broken = (and_parts (all_differ (filled m)) _ (and_parts (are_stored_once (sort_of m) m) (are_filled_once (sort_of m) m) (rules_kept m broken).kept_once).1).0

-- a memory among the declarations has at most 1,048,576 words
pub words_few : (m : Module) (decls : List Decl) (i : ℕ) (d : Decl) {range : Option ℕ} {name : List ℕ} {last : ℕ} → first_broken m ≡ None → decls ≡ m.decls → i < length decls → d ≡ get_or decls i d
    → d ≡ decl.Memory range name last → last < 1048576
words_few m decls i d {last = last} broken same lt here is =
    let all = list_all decl_is_whole m.decls in
    let most = nat_le (sum_by decl_words m.decls) 1048576 in
    let sizes = and_parts all most (and_parts (all && most) _ (rules_kept m broken).addressed).0 in
    let sum : sum_by decl_words m.decls ≤ 1048576 = (let test = sizes.1 in search rules) in
    let item : decl_words (get_or decls i d) ≤ sum_by decl_words decls = get_or-le-sum_by decl_words decls i d lt in
    let words : decl_words (get_or decls i d) ≡ last + 1 = ap decl_words (sym here ∙ is) in
    omega (arith, sum, item, words, ap (sum_by decl_words) same)

-- from some items and one more is drawn what is drawn from them, and then what is drawn from the one
drawn_next : {A B : Type 0} (f : A → Option B) (items : List A) (i : ℕ) (a : A) → i < length items → a ≡ get_or items i a → filter_map f (take (i + 1) items) ≡ filter_map f (take i items) ++ filter_map f (a ∷ [])
drawn_next f items i a lt here = ap (filter_map f) (take_more items i a lt ∙ ap (λ x. take i items ++ x ∷ []) (sym here)) ∙ filter_map-append f (take i items) (a ∷ [])

-- what is drawn from some items, and from one item more
pub drawn_more : {A B : Type 0} (f : A → Option B) (items : List A) (i : ℕ) (a : A) (b : B) → i < length items → a ≡ get_or items i a → f a ≡ Some b → filter_map f (take (i + 1) items) ≡ filter_map f (take i items) ++ b ∷ []
drawn_more f items i a b lt here e = drawn_next f items i a lt here ∙ ap (λ more. filter_map f (take i items) ++ more) (rw e refl)

-- an item from which nothing is drawn adds nothing
pub drawn_same : {A B : Type 0} (f : A → Option B) (items : List A) (i : ℕ) (a : A) → i < length items → a ≡ get_or items i a → f a ≡ None → filter_map f (take (i + 1) items) ≡ filter_map f (take i items)
drawn_same f items i a lt here e = drawn_next f items i a lt here ∙ (ap (λ more. filter_map f (take i items) ++ more) (rw e refl) ∙ append-nil (filter_map f (take i items)))
