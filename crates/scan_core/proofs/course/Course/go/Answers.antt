use Rattle.std.proofs.Common.{ap, subst, false}
use Rattle.sp_model.specs.Settling.{Accept, Again}
use Rattle.scan_core.proofs.Ending.{ends_says, outer_ends, outer_says, none_left, none_closed, no_items, ok_map, err_map}
use Rattle.scan_core.specs.Advances.{RowDecides, ItemFills, CallEnds, ListBegins, ParentsEnd, NothingIsLeft}
use Rattle.scan_core.specs.Calls.{outer_of, outer_view}
use Rattle.scan_core.specs.Courses.{state_of, table_of, undecided}
use Rattle.scan_core.specs.Next.{IsNext, outer_source}
use Rattle.scan_core.specs.declared.step.NextStep.{NextStep}
use Rattle.scan_core.proofs.course.Course.go.Goals as goal

pub decide-requires-clause-first : goal.decide-requires-clause-first
decide-requires-clause-first g c =
    let n = subst (λ (x : NextStep). IsNext (table_of c.args.scope.now) c.args.scope.now.request c.args.scope.now.window (state_of c.args.scope.now c.args.self.now) x) c.in-Decide.is c.requires.next in
    n

pub returns-in-Decide-clause-state : goal.returns-in-Decide-clause-state
returns-in-Decide-clause-state g c =
    ok_map c.decide.result _ _ RowDecides c.decide.ensures.state

pub returns-in-Decide-clause-err : goal.returns-in-Decide-clause-err
returns-in-Decide-clause-err g c =
    err_map c.decide.result _ _ (ap (state_of c.args.scope.now)) c.decide.ensures.err

pub fill-requires-clause-item : goal.fill-requires-clause-item
fill-requires-clause-item g c =
    let n = subst (λ (x : NextStep). IsNext (table_of c.args.scope.now) c.args.scope.now.request c.args.scope.now.window (state_of c.args.scope.now c.args.self.now) x) c.in-Fill.is c.requires.next in
    n

pub returns-in-Fill-clause-state : goal.returns-in-Fill-clause-state
returns-in-Fill-clause-state g c =
    ok_map c.fill.result _ _ ItemFills c.fill.ensures.state

pub returns-in-AcceptItems-clause-state : goal.returns-in-AcceptItems-clause-state
returns-in-AcceptItems-clause-state g c =
    let n = subst (λ (x : NextStep). IsNext (table_of c.args.scope.now) c.args.scope.now.request c.args.scope.now.window (state_of c.args.scope.now c.args.self.now) x) c.in-AcceptItems.is c.requires.next in
    CallEnds (ends_says (state_of c.args.scope.now c.args.self.now) _ Accept false n c.accept_items.ensures.state)

pub ask_items-requires-clause-decided : goal.ask_items-requires-clause-decided
ask_items-requires-clause-decided g c =
    let n = subst (λ (x : NextStep). IsNext (table_of c.args.scope.now) c.args.scope.now.request c.args.scope.now.window (state_of c.args.scope.now c.args.self.now) x) c.in-AskItems.is c.requires.next in
    none_left c.args.self.now.before (undecided c.args.self.now) n.2.0 n.2.1

pub returns-in-AskItems-clause-state : goal.returns-in-AskItems-clause-state
returns-in-AskItems-clause-state g c =
    let n = subst (λ (x : NextStep). IsNext (table_of c.args.scope.now) c.args.scope.now.request c.args.scope.now.window (state_of c.args.scope.now c.args.self.now) x) c.in-AskItems.is c.requires.next in
    ok_map c.ask_items.result _ _ (λ f. CallEnds (ends_says (state_of c.args.scope.now c.args.self.now) _ Again n.0 n.1 (n.2, f n.1.inner n.1.is))) c.ask_items.ensures.state

pub returns-in-AskItems-clause-err : goal.returns-in-AskItems-clause-err
returns-in-AskItems-clause-err g c =
    err_map c.ask_items.result _ _ (ap (state_of c.args.scope.now)) c.ask_items.ensures.err

pub refuse_items-requires-clause-refused : goal.refuse_items-requires-clause-refused
refuse_items-requires-clause-refused g c =
    let n = subst (λ (x : NextStep). IsNext (table_of c.args.scope.now) c.args.scope.now.request c.args.scope.now.window (state_of c.args.scope.now c.args.self.now) x) c.in-RefuseItems.is c.requires.next in
    n

pub returns-in-RefuseItems-clause-state : goal.returns-in-RefuseItems-clause-state
returns-in-RefuseItems-clause-state g c =
    ok_map c.refuse_items.result _ _ CallEnds c.refuse_items.ensures.state

pub returns-in-RefuseItems-clause-err : goal.returns-in-RefuseItems-clause-err
returns-in-RefuseItems-clause-err g c =
    err_map c.refuse_items.result _ _ (ap (state_of c.args.scope.now)) c.refuse_items.ensures.err

pub refuse_many-requires-clause-refused : goal.refuse_many-requires-clause-refused
refuse_many-requires-clause-refused g c =
    let n = subst (λ (x : NextStep). IsNext (table_of c.args.scope.now) c.args.scope.now.request c.args.scope.now.window (state_of c.args.scope.now c.args.self.now) x) c.in-TooManyItems.is c.requires.next in
    n

pub returns-in-TooManyItems-clause-state : goal.returns-in-TooManyItems-clause-state
returns-in-TooManyItems-clause-state g c =
    ok_map c.refuse_many.result _ _ CallEnds c.refuse_many.ensures.state

pub returns-in-TooManyItems-clause-err : goal.returns-in-TooManyItems-clause-err
returns-in-TooManyItems-clause-err g c =
    err_map c.refuse_many.result _ _ (ap (state_of c.args.scope.now)) c.refuse_many.ensures.err

pub begin_list-requires-clause-parent : goal.begin_list-requires-clause-parent
begin_list-requires-clause-parent g c =
    let n = subst (λ (x : NextStep). IsNext (table_of c.args.scope.now) c.args.scope.now.request c.args.scope.now.window (state_of c.args.scope.now c.args.self.now) x) c.in-BeginList.is c.requires.next in
    n

pub begin_list-requires-clause-closed : goal.begin_list-requires-clause-closed
begin_list-requires-clause-closed g c =
    let n = subst (λ (x : NextStep). IsNext (table_of c.args.scope.now) c.args.scope.now.request c.args.scope.now.window (state_of c.args.scope.now c.args.self.now) x) c.in-BeginList.is c.requires.next in
    no_items c.args.scope.now.items c.args.self.now.walk c.args.self.now.items n.closed

pub returns-in-BeginList-clause-state : goal.returns-in-BeginList-clause-state
returns-in-BeginList-clause-state g c =
    ok_map c.begin_list.result _ _ ListBegins c.begin_list.ensures.state

pub returns-in-BeginList-clause-err : goal.returns-in-BeginList-clause-err
returns-in-BeginList-clause-err g c =
    err_map c.begin_list.result _ _ (ap (state_of c.args.scope.now)) c.begin_list.ensures.err

pub returns-in-AcceptParents-clause-state : goal.returns-in-AcceptParents-clause-state
returns-in-AcceptParents-clause-state g c =
    let n = subst (λ (x : NextStep). IsNext (table_of c.args.scope.now) c.args.scope.now.request c.args.scope.now.window (state_of c.args.scope.now c.args.self.now) x) c.in-AcceptParents.is c.requires.next in
    ParentsEnd (outer_ends (table_of c.args.scope.now) (state_of c.args.scope.now c.args.self.now) _ Accept n c.accept_parents.ensures.state)

pub ask_parents-requires-clause-decided : goal.ask_parents-requires-clause-decided
ask_parents-requires-clause-decided g c =
    let n = subst (λ (x : NextStep). IsNext (table_of c.args.scope.now) c.args.scope.now.request c.args.scope.now.window (state_of c.args.scope.now c.args.self.now) x) c.in-AskParents.is c.requires.next in
    none_closed c.args.self.now.before (undecided c.args.self.now) (c.requires.form.closed (no_items c.args.scope.now.items c.args.self.now.walk c.args.self.now.items n.0.closed)) n.1

pub ask_parents-requires-clause-walked : goal.ask_parents-requires-clause-walked
ask_parents-requires-clause-walked g c =
    let n = subst (λ (x : NextStep). IsNext (table_of c.args.scope.now) c.args.scope.now.request c.args.scope.now.window (state_of c.args.scope.now c.args.self.now) x) c.in-AskParents.is c.requires.next in
    λ o is. (outer_says (outer_source (table_of c.args.scope.now)) (state_of c.args.scope.now c.args.self.now) (outer_of o) Again n.0 (ap outer_view is)).3

pub ask_parents-requires-clause-closed : goal.ask_parents-requires-clause-closed
ask_parents-requires-clause-closed g c =
    let n = subst (λ (x : NextStep). IsNext (table_of c.args.scope.now) c.args.scope.now.request c.args.scope.now.window (state_of c.args.scope.now c.args.self.now) x) c.in-AskParents.is c.requires.next in
    no_items c.args.scope.now.items c.args.self.now.walk c.args.self.now.items n.0.closed

pub returns-in-AskParents-clause-state : goal.returns-in-AskParents-clause-state
returns-in-AskParents-clause-state g c =
    let n = subst (λ (x : NextStep). IsNext (table_of c.args.scope.now) c.args.scope.now.request c.args.scope.now.window (state_of c.args.scope.now c.args.self.now) x) c.in-AskParents.is c.requires.next in
    ok_map c.ask_parents.result _ _ (λ f. ParentsEnd (outer_ends (table_of c.args.scope.now) (state_of c.args.scope.now c.args.self.now) _ Again n.0 (n.1, f n.0.outer n.0.is))) c.ask_parents.ensures.state

pub returns-in-AskParents-clause-err : goal.returns-in-AskParents-clause-err
returns-in-AskParents-clause-err g c =
    err_map c.ask_parents.result _ _ (ap (state_of c.args.scope.now)) c.ask_parents.ensures.err

pub refuse_parents-requires-clause-refused : goal.refuse_parents-requires-clause-refused
refuse_parents-requires-clause-refused g c =
    let n = subst (λ (x : NextStep). IsNext (table_of c.args.scope.now) c.args.scope.now.request c.args.scope.now.window (state_of c.args.scope.now c.args.self.now) x) c.in-RefuseParents.is c.requires.next in
    n

pub returns-in-RefuseParents-clause-state : goal.returns-in-RefuseParents-clause-state
returns-in-RefuseParents-clause-state g c =
    ok_map c.refuse_parents.result _ _ ParentsEnd c.refuse_parents.ensures.state

pub returns-in-RefuseParents-clause-err : goal.returns-in-RefuseParents-clause-err
returns-in-RefuseParents-clause-err g c =
    err_map c.refuse_parents.result _ _ (ap (state_of c.args.scope.now)) c.refuse_parents.ensures.err

pub returns-in-Finish-clause-state : goal.returns-in-Finish-clause-state
returns-in-Finish-clause-state g c =
    let n = subst (λ (x : NextStep). IsNext (table_of c.args.scope.now) c.args.scope.now.request c.args.scope.now.window (state_of c.args.scope.now c.args.self.now) x) c.in-Finish.is c.requires.next in
    NothingIsLeft (record { outer = n.0; inner = n.1; decided = n.2; stands = c.finish.ensures.state })

pub returns-in-Wait-clause-state : goal.returns-in-Wait-clause-state
returns-in-Wait-clause-state g c =
    absurd (c.requires.on c.in-Wait.is)
