-- What waits in the buffer, and what was written.
use Rattle.std.specs.Prelude.{◌≡◌, ℕ, ◌+◌, List, ◌++◌, take, length, Option}
use Rattle.std.specs.Io.KnownBytes.{Appends}
use Rattle.http_edge.specs.declared.write_buffer.WriteBuffer.{WriteBuffer}

-- the bytes that wait
abbrev pub waiting_bytes : WriteBuffer → List ℕ
waiting_bytes j = take j.len j.bytes

-- the sink took the first of the bytes, behind so many that were sent, and the others wait
pub record Passes (old new : Option (List ℕ)) (sent : ℕ) (to : WriteBuffer)
    (bytes : List ℕ) : Type 0 where
  pub done : List ℕ
  pub taken : Appends old new done
  pub rest : bytes ≡ done ++ waiting_bytes to
  pub count : to.sent ≡ sent + length done
