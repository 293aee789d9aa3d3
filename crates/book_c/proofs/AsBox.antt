-- A handle and its parts own what a box at the same types owns.
use mir.Syntax.{impl, tnil, dnil}
use mathlib.Core.List.{[]}
use denote.RawPtr.{Ptr, InBlock, block_ptr, null_ptr}
use Rattle.std.specs.Prelude.{◌≢◌, refl}
use denote.Signature.{Slot, plain}
use Rattle.std_alloc.proofs.BoxSteps.Form.{Bx}
use Rattle.std_heap.specs.contracts.Global as Heap
use Rattle.std_heap.specs.contracts.GlobalAllocator.TheImpl.{ghosts, dict}
use Rattle.std_heap.proofs.Global.TheLaws as heap
use Rattle.book_c.specs.contracts.kept.Kept as Kept
use Rattle.book_c.proofs.kept.Kept.TheLaws as kept
use Rattle.book_c.specs.contracts.handle.parts.Parts as Parts
use Rattle.book_c.specs.contracts.handle.Handle as Handle

abbrev pub E : Bx
E = record {
  row = Kept.the_row;
  laws = kept.the_row_laws;
  al =
      record {
        row = Heap.the_row;
        laws = heap.the_row_laws;
        g = ghosts;
        d = dict;
        drops =
            impl [] tnil dnil;
      };
}

abbrev pub FromParts : Slot 0
FromParts = plain (λ _. Parts.the_row Kept.the_row Heap.the_row ghosts)

abbrev pub FromHandle : Slot 0
FromHandle = plain (λ _. Handle.the_row)

-- a pointer that is not null points into a block
pub lies_in : (p : Ptr) → p ≢ null_ptr → InBlock p
lies_in (block_ptr b o) some = tt
lies_in null_ptr some = absurd (some refl)
