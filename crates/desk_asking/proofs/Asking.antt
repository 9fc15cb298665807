-- Jobs that ask a connection itself are lawful.
use Rattle.std.proofs.Common.{◌≡◌, ◌≤◌, ◌^◌, ℕ, Bool, false, List, Contains, Option, None, refl, sym, subst, ap, arith, ◌∙◌}
use Rattle.call_jobs.specs.Jobs.{IsJob, asked_by, table_by, line_function, connection_of, tags_for}
use Rattle.call_jobs.specs.Lawful.{IsLawful, IsLawfulJob}
use Rattle.call_jobs.specs.declared.job.Job.{Job}
use Rattle.sp_model.specs.Book.{Book}
use Rattle.sp_model.specs.declared.call.Asked.{Asked}
use Rattle.sp_model.specs.declared.call.Asked.TheVariants as asks
use Rattle.sp_model.specs.declared.declaration.TableDecl.{TableDecl}
use Rattle.sp_model.specs.declared.scan.Seat.{Seat}
use Rattle.sp_model.specs.declared.settings.Connection.{Connection}
use Rattle.sp_world.specs.RequestLines.{IsAskedForm}

-- of a plain connection of these, where what is asked of no table is lawful and has a line
lawful_of : (tells : Bool) (book : Book) (connections : List Connection) (connection : Connection) (what : Asked) (seat : Seat) (job : Job)
    → Contains connections connection → connection.aggregator ≡ false → connection.name ≡ connection_of what
    → IsLawful tells book what None → IsAskedForm (line_function what None) what
    → IsJob connection what None seat 0 job → IsLawfulJob tells book connections job
lawful_of tells book connections connection what seat job among plain named lawful form is = record {
  lawful = subst (λ (x : Asked). IsLawful tells book x (table_by job)) (sym is.asks) (subst (λ (t : Option TableDecl). IsLawful tells book what t) (sym is.of_table) lawful);
  of_connections = record {
    connection = connection;
    among = among;
    plain = plain;
    named = named ∙ ap connection_of (sym is.asks);
    tagged = is.tagged ∙ (ap (λ (x : Asked). tags_for connection x None) (sym is.asks) ∙ ap (tags_for connection (asked_by job)) (sym is.of_table));
  };
  form = subst (λ (x : Asked). IsAskedForm (line_function x (table_by job)) x) (sym is.asks) (subst (λ (t : Option TableDecl). IsAskedForm (line_function what t) what) (sym is.of_table) form);
}

pub version_is_lawful : (tells : Bool) (book : Book) (connections : List Connection) (connection : Connection) (tick : ℕ) (seat : Seat) (job : Job)
    → tick ≤ 2 ^ 62 → Contains connections connection → connection.aggregator ≡ false
    → IsJob connection (asks.Version connection.name tick) None seat 0 job → IsLawfulJob tells book connections job
version_is_lawful tells book connections connection tick seat job small among plain is =
    lawful_of tells book connections connection (asks.Version connection.name tick) seat job among plain refl small (omega (arith, small), refl) is

pub declare_is_lawful : (tells : Bool) (book : Book) (connections : List Connection) (connection : Connection) (seat : Seat) (job : Job)
    → Contains connections connection → connection.aggregator ≡ false
    → IsJob connection (asks.Declare connection.name) None seat 0 job → IsLawfulJob tells book connections job
declare_is_lawful tells book connections connection seat job among plain is =
    lawful_of tells book connections connection (asks.Declare connection.name) seat job among plain refl tt refl is
