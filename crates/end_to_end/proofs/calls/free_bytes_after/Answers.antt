use mathlib.Core.Path.{refl, sym, ◌∙◌}
use Rattle.free_lists.specs.declared.calls.Which.TheVariants.{Metadata, Raw, Unclassified}
use Rattle.end_to_end.proofs.CallLaws.{counted-after, runs_after_lem}
use Rattle.end_to_end.proofs.calls.free_bytes_after.Goals as goal

pub returns-in-Metadata : goal.returns-in-Metadata
returns-in-Metadata c =
    let a = c.args in
    let e = c.make_calls-lists.ensures in
    record { answer = counted-after a.calls.now a.metadata.now a.raw.now a.unclassified.now _ e Metadata a.number _ (sym c.which_of.ensures ∙ c.in-Metadata.is) c.free_bytes.ensures; memory = runs_after_lem a.calls.now a.metadata.now a.raw.now a.unclassified.now _ e _ _ _ _ refl }

pub returns-in-Raw : goal.returns-in-Raw
returns-in-Raw c =
    let a = c.args in
    let e = c.make_calls-lists.ensures in
    record { answer = counted-after a.calls.now a.metadata.now a.raw.now a.unclassified.now _ e Raw a.number _ (sym c.which_of.ensures ∙ c.in-Raw.is) c.free_bytes-in-Raw.ensures; memory = runs_after_lem a.calls.now a.metadata.now a.raw.now a.unclassified.now _ e _ _ _ _ refl }

pub returns-in-Unclassified : goal.returns-in-Unclassified
returns-in-Unclassified c =
    let a = c.args in
    let e = c.make_calls-lists.ensures in
    record { answer = counted-after a.calls.now a.metadata.now a.raw.now a.unclassified.now _ e Unclassified a.number _ (sym c.which_of.ensures ∙ c.in-Unclassified.is) c.free_bytes-in-Unclassified.ensures; memory = runs_after_lem a.calls.now a.metadata.now a.raw.now a.unclassified.now _ e _ _ _ _ refl }
