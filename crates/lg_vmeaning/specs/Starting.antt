-- How memories are filled at the start, by indexes. No contract of the crate's surface speaks of this.
use Rattle.std.specs.Prelude.{ℕ, ◌+◌, List, Option, Some, None, option_map, option_and_then, unwrap_or, slice_get, replicate}
use Rattle.lg_vtree.specs.declared.module.Decl.{Decl}
use Rattle.lg_vtree.specs.declared.module.Decl.TheVariants as decl
use Rattle.lg_vtree.specs.declared.module.Fill.{Fill}
use Rattle.lg_vtree.specs.declared.module.Word.{Word}
use Rattle.lg_vtree.specs.declared.module.Module.{Module}
use Rattle.lg_vrules.specs.declared.indexes.Indexes.{Indexes}
use Rattle.lg_vrules.specs.Indexes.{index_under}
use Rattle.lg_vmachine.specs.Machine.{put_word}
use Rattle.lg_vmeaning.specs.Rows.{filled_with}

-- a memory before the words of the init
abbrev pub filled_memory : Module → Decl → Option (List ℕ)
filled_memory m (decl.Memory range name last) = Some (replicate (last + 1) (filled_with m name))
filled_memory m (decl.Wire range name) = None
filled_memory m (decl.Reg range name start) = None

-- the number that fills the memory of this name
abbrev pub filled_by : Indexes → List Fill → List ℕ → ℕ
filled_by indexes fills name = unwrap_or (option_map (λ (f : Fill). f.value.value) (option_and_then (slice_get fills) (index_under indexes name))) 0

-- memories after a line of the init
abbrev pub with_word_by : Indexes → List (List ℕ) → Word → List (List ℕ)
with_word_by indexes memories w = put_at (index_under indexes w.name)
  where
    put_at : Option ℕ → List (List ℕ)
    put_at (Some memory) = put_word memories memory w.address w.value.value
    put_at None = memories
