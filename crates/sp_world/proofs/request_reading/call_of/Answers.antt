use Rattle.sp_world.proofs.request_reading.call_of.Goals as goal

pub returns-in_ok-call-in-List-clause-form : goal.returns-in_ok-call-in-List-clause-form
returns-in_ok-call-in-List-clause-form c = c.in_ok-call-in-List.ensures.form c.args.function.now
