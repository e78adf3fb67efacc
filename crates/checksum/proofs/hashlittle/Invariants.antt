-- The loop's invariant: the hash of the bytes that are left, from the words reached, is the hash of all bytes.
use Rattle.std.proofs.Common.{◌≡◌, length}
use Rattle.checksum.specs.Lookup3.{hash_of}
use Rattle.checksum.proofs.HashLaws.{hash}
use Rattle.checksum.proofs.hashlittle.Given as goal

abbrev pub invariant-loop-rest : goal.invariant-loop-rest
invariant-loop-rest l = hash l.rest l.w ≡ hash_of l.data l.initval

abbrev pub decreases-loop-rest : goal.decreases-loop-rest
decreases-loop-rest l = length l.rest
