-- Each refusal's number and values, by cases. Assumes nothing.
--   number_of  the number under which a refusal is listed: 1 to 14 by document 01 ("Fourteen ways to say no"), 15 to 17 by document 02 (P4:
--              "15, after 6"; P5: "16, wrong version or client, with the byte; 17, back address differs")
--   values_of  the values that it names, in its order ("A refusal carries its number and the values named"): "expected and available" of 7,
--              "the byte" of 8, 9 and 16, "stored and computed" of 11, "needed and given" of 14; the others have none
use Rattle.std.specs.Prelude.{ℕ, List, [], ◌∷◌}
use Rattle.error.specs.declared.Refusal.{Refusal}
use Rattle.error.specs.declared.Refusal.TheVariants.{Width, Page, NotAList, Overflow, SharedAddress, PartUnit, OtherKind, Short, MessageVersion, Strategy, InvalidManager, Checksum, WideAddress, Place, OverCapacity, VersionOrClient, BackAddress}

abbrev pub number_of : Refusal → ℕ
number_of Width = 1
number_of Page = 2
number_of NotAList = 3
number_of Overflow = 4
number_of SharedAddress = 5
number_of PartUnit = 6
number_of OtherKind = 15
number_of (Short expected available) = 7
number_of (MessageVersion byte) = 8
number_of (Strategy byte) = 9
number_of InvalidManager = 10
number_of (Checksum stored computed) = 11
number_of WideAddress = 12
number_of Place = 13
number_of (OverCapacity needed given) = 14
number_of (VersionOrClient byte) = 16
number_of BackAddress = 17

abbrev pub values_of : Refusal → List ℕ
values_of Width = []
values_of Page = []
values_of NotAList = []
values_of Overflow = []
values_of SharedAddress = []
values_of PartUnit = []
values_of OtherKind = []
values_of (Short expected available) = expected ∷ available ∷ []
values_of (MessageVersion byte) = byte ∷ []
values_of (Strategy byte) = byte ∷ []
values_of InvalidManager = []
values_of (Checksum stored computed) = stored ∷ computed ∷ []
values_of WideAddress = []
values_of Place = []
values_of (OverCapacity needed given) = needed ∷ given ∷ []
values_of (VersionOrClient byte) = byte ∷ []
values_of BackAddress = []
