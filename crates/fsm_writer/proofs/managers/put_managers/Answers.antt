use native.Mathlib.Omega.{arith}
use Rattle.fsm_writer.proofs.ManagersLaws.{ends, first_asked, second_asked, third_asked, all-written}
use Rattle.fsm_writer.proofs.managers.put_managers.Goals as goal

pub overflow_add-large_at : goal.overflow_add-large_at
overflow_add-large_at c =
    let a = c.args in
    omega (arith, ends a.meta.now a.raw.now a.unclassified.now a.n a.page a.start a.offset_size a.p c.requires.plan a.out.now)

pub put_blocks-requires : goal.put_blocks-requires
put_blocks-requires c =
    let every = let a = c.args in
    first_asked a.meta.now a.raw.now a.unclassified.now a.n a.page a.start a.offset_size a.p c.requires.plan a.out.now _ c.small_source-small.ensures c.requires.room in
    record { given = every.0; numbers = every.1.0; width = every.1.1.0; measure = every.1.1.1.0; room = every.1.1.1.1 }

pub overflow_add-start : goal.overflow_add-start
overflow_add-start c =
    let a = c.args in
    omega (arith, ends a.meta.now a.raw.now a.unclassified.now a.n a.page a.start a.offset_size a.p c.requires.plan a.out.now)

pub slice_bounds-put_blocks-count : goal.slice_bounds-put_blocks-count
slice_bounds-put_blocks-count c =
    let a = c.args in
    (second_asked a.meta.now a.raw.now a.unclassified.now a.n a.page a.start a.offset_size a.p c.requires.plan a.out.now c.requires.room _ _ _ c.small_source-small.ensures c.small_source-small_raw.ensures c.large_source-large.ensures _ c.put_blocks.ensures).0

pub slice_bounds-put_blocks-start : goal.slice_bounds-put_blocks-start
slice_bounds-put_blocks-start c =
    let a = c.args in
    (second_asked a.meta.now a.raw.now a.unclassified.now a.n a.page a.start a.offset_size a.p c.requires.plan a.out.now c.requires.room _ _ _ c.small_source-small.ensures c.small_source-small_raw.ensures c.large_source-large.ensures _ c.put_blocks.ensures).0

pub put_blocks-requires-2 : goal.put_blocks-requires-2
put_blocks-requires-2 c =
    let every = let a = c.args in
    (second_asked a.meta.now a.raw.now a.unclassified.now a.n a.page a.start a.offset_size a.p c.requires.plan a.out.now c.requires.room _ _ _ c.small_source-small.ensures c.small_source-small_raw.ensures c.large_source-large.ensures _ c.put_blocks.ensures).1 in
    record { given = every.0; numbers = every.1.0; width = every.1.1.0; measure = every.1.1.1.0; room = every.1.1.1.1 }

pub overflow_add-start-2 : goal.overflow_add-start-2
overflow_add-start-2 c =
    let a = c.args in
    omega (arith, ends a.meta.now a.raw.now a.unclassified.now a.n a.page a.start a.offset_size a.p c.requires.plan a.out.now)

pub slice_bounds-put_blocks-count-2 : goal.slice_bounds-put_blocks-count-2
slice_bounds-put_blocks-count-2 c =
    let a = c.args in
    (third_asked a.meta.now a.raw.now a.unclassified.now a.n a.page a.start a.offset_size a.p c.requires.plan a.out.now c.requires.room _ _ _ c.small_source-small.ensures c.small_source-small_raw.ensures c.large_source-large.ensures _ c.put_blocks.ensures _ c.put_blocks-2.ensures).0

pub slice_bounds-put_blocks-start-2 : goal.slice_bounds-put_blocks-start-2
slice_bounds-put_blocks-start-2 c =
    let a = c.args in
    (third_asked a.meta.now a.raw.now a.unclassified.now a.n a.page a.start a.offset_size a.p c.requires.plan a.out.now c.requires.room _ _ _ c.small_source-small.ensures c.small_source-small_raw.ensures c.large_source-large.ensures _ c.put_blocks.ensures _ c.put_blocks-2.ensures).0

pub put_blocks-requires-3 : goal.put_blocks-requires-3
put_blocks-requires-3 c =
    let every = let a = c.args in
    (third_asked a.meta.now a.raw.now a.unclassified.now a.n a.page a.start a.offset_size a.p c.requires.plan a.out.now c.requires.room _ _ _ c.small_source-small.ensures c.small_source-small_raw.ensures c.large_source-large.ensures _ c.put_blocks.ensures _ c.put_blocks-2.ensures).1 in
    record { given = every.0; numbers = every.1.0; width = every.1.1.0; measure = every.1.1.1.0; room = every.1.1.1.1 }

pub returns : goal.returns
returns c =
    let a = c.args in
    all-written a.meta.now a.raw.now a.unclassified.now a.n a.page a.start a.offset_size a.p c.requires.plan a.out.now c.requires.room _ _ _ c.small_source-small.ensures c.small_source-small_raw.ensures c.large_source-large.ensures _ c.put_blocks.ensures _ c.put_blocks-2.ensures _ c.put_blocks-3.ensures
