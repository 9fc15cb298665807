use Rattle.std.proofs.Common.{true, refl}
use Rattle.one_scan.proofs.Added.{listed_any, added_any}
use Rattle.one_scan.proofs.Telling.{same_list_goes, wanted_goes, waits_wanting, waits_listed, all_listed}
use Rattle.one_scan.proofs.scan.Scan.wanted.Goals as goal

pub invariant_of-self : goal.invariant_of-self
invariant_of-self g c =
    let s = c.self.inside in (
      listed_any g.W.World.tells g.W.World.book s.scope c.args.scan s.course c.list.new.self s.version s.asked c.args.into.now c.list.new.into c.self.invariant.0 c.list.ensures.form c.list.ensures.lists s.course.end refl c.list.ensures.decided,
      waits_listed s.scope c.args.scan s.course c.list.new.self s.wanting c.args.into.now c.list.new.into c.self.invariant.0.course c.list.ensures.lists c.list.ensures.decided c.self.invariant.1,
    )

pub invariant_of-self-in_default : goal.invariant_of-self-in_default
invariant_of-self-in_default g c =
    let s = c.self.inside in (
      listed_any g.W.World.tells g.W.World.book s.scope c.args.scan s.course c.list.new.self s.version s.asked c.args.into.now c.list.new.into c.self.invariant.0 c.list.ensures.form c.list.ensures.lists s.course.end refl c.list.ensures.decided,
      waits_wanting s.scope s.course c.list.new.self s.wanting c.self.invariant.1,
    )

pub returns-in_default-clause-adds : goal.returns-in_default-clause-adds
returns-in_default-clause-adds g c =
    let s = c.self.inside in
    added_any g.W.World.tells g.W.World.book s.scope c.args.scan s.course c.list.new.self s.version s.asked true c.args.into.now c.list.new.into c.self.invariant.0
    (listed_any g.W.World.tells g.W.World.book s.scope c.args.scan s.course c.list.new.self s.version s.asked c.args.into.now c.list.new.into c.self.invariant.0 c.list.ensures.form c.list.ensures.lists s.course.end refl c.list.ensures.decided)
    c.list.ensures.lists s.course.end refl c.list.ensures.decided

pub returns-clause-adds : goal.returns-clause-adds
returns-clause-adds g c =
    let s = c.self.inside in
    added_any g.W.World.tells g.W.World.book s.scope c.args.scan s.course c.list.new.self s.version s.asked s.wanting c.args.into.now c.list.new.into c.self.invariant.0
    (listed_any g.W.World.tells g.W.World.book s.scope c.args.scan s.course c.list.new.self s.version s.asked c.args.into.now c.list.new.into c.self.invariant.0 c.list.ensures.form c.list.ensures.lists s.course.end refl c.list.ensures.decided)
    c.list.ensures.lists s.course.end refl c.list.ensures.decided

pub returns-then-self-clause-goes : goal.returns-then-self-clause-goes
returns-then-self-clause-goes g c = λ t more grows.
    let s = c.self.inside in
    rw (← c.self.view_is) (same_list_goes g.W.World.book s.scope s.asked s.wanting s.wanting g.W.World.tells s.course s.course s.version c.args.into.now c.args.into.now more c.self.invariant.0 t refl refl grows)

pub returns-in_default-clause-goes : goal.returns-in_default-clause-goes
returns-in_default-clause-goes g c = λ t more grows.
    let s = c.self.inside in
    rw (← c.self.view_is) (wanted_goes g.W.World.book s.scope s.asked s.wanting true g.W.World.tells s.course c.list.new.self s.version c.args.scan c.args.into.now c.list.new.into more c.self.invariant.0 c.list.ensures.lists c.list.ensures.decided t grows)

pub returns-clause-goes : goal.returns-clause-goes
returns-clause-goes g c = λ t more grows.
    let s = c.self.inside in
    rw (← c.self.view_is) (wanted_goes g.W.World.book s.scope s.asked s.wanting s.wanting g.W.World.tells s.course c.list.new.self s.version c.args.scan c.args.into.now c.list.new.into more c.self.invariant.0 c.list.ensures.lists c.list.ensures.decided t grows)

pub returns-clause-all : goal.returns-clause-all
returns-clause-all g c =
    let s = c.self.inside in
    all_listed s.scope c.list.new.self s.version s.asked s.wanting c.in-Ok.ensures.all
