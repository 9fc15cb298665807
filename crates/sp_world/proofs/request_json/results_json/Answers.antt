use Rattle.serde_json.specs.View.{members_view}
use Rattle.serde_json.proofs.Views.{view-Object}
use Rattle.sp_world.proofs.RequestTexts.{results_back, results_depth, results_whole, results_no_float}
use Rattle.sp_world.proofs.request_json.results_json.Goals as goal

pub returns-clause-back : goal.returns-clause-back
returns-clause-back c = rw view-Object (results_back (members_view c.in_ok-map.map.entries) c.args.results.now c.in_ok-map.ensures.reads_back)

pub returns-clause-no_float : goal.returns-clause-no_float
returns-clause-no_float c = rw view-Object (results_no_float (members_view c.in_ok-map.map.entries) c.args.results.now c.in_ok-map.ensures.reads_back)

pub returns-clause-whole : goal.returns-clause-whole
returns-clause-whole c = rw view-Object (results_whole (members_view c.in_ok-map.map.entries) c.args.results.now c.in_ok-map.ensures.reads_back)

pub returns-clause-nests : goal.returns-clause-nests
returns-clause-nests c = rw view-Object (results_depth (members_view c.in_ok-map.map.entries) c.args.results.now c.in_ok-map.ensures.reads_back)
