-- DEMAND 2's round trip of the message: what `serialize` writes, `parse` gives back at sizes 8, at which it is written. Document 01, "The message":
-- "Written fields are 8 bytes"; "Reading takes the stated sizes .. and all whole addresses present". Assumes nothing.
--   carried     the addresses that a message carries: none where it does not persist
--   Stored      the record's numbers and the addresses as the code holds them: 64 bits each, the page_end threshold 16
--   RoundTrip   whatever message is accepted, what was written is read as it, with its addresses in any lent run with room
use Rattle.std.specs.Prelude.{ℕ, ◌^◌, ◌≤◌, ◌<◌, ◌≡◌, cond, List, [], length, take, get_or}
use Rattle.error.specs.Outcome.{answer}
use Rattle.error.specs.Lent.{with, over}
use Rattle.file_space_info.specs.declared.FileSpaceInfo.{FileSpaceInfo}
use Rattle.file_space_info.specs.Message.{serialized, parsed}

abbrev pub carried : FileSpaceInfo → List ℕ → List ℕ
carried m addrs = cond m.persist addrs []

pub record Stored (m : FileSpaceInfo) (addrs : List ℕ) : Type 0 where
  pub threshold : m.threshold < 2 ^ 64
  pub page_size : m.page_size < 2 ^ 64
  pub page_end : m.page_end_meta_threshold < 2 ^ 16
  pub end_before : m.eoa_pre_fsm < 2 ^ 64
  pub addresses : (i : ℕ) → get_or addrs i 0 < 2 ^ 64

-- n is the length that `serialize` answers, out the bytes that were lent to it, u the same afterwards
abbrev pub RoundTrip : Type 0
RoundTrip =
    (m : FileSpaceInfo) (addrs out : List ℕ) (n : ℕ) (u : List ℕ) → Stored m addrs
    → serialized m addrs out ≡ answer (with n u)
    → (xs : List ℕ) → length (carried m addrs) ≤ length xs
    → parsed (take n u) 8 8 xs ≡ answer (with (record { info = m; count = length (carried m addrs) }) (over 0 (carried m addrs) xs))
