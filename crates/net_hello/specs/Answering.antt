-- What an end of a connection answers to a hello.
use Rattle.std.specs.Prelude.{ℕ, bytes_eq, replicate, if◌then◌else◌}
use Rattle.vr_model.specs.declared.message.Party.{Party}
use Rattle.net_hello.specs.declared.hello.Known.{Known}
use Rattle.net_hello.specs.declared.hello.Hello.{Hello}

abbrev pub nothing_known : Known
nothing_known = record { store = 0; starts = 0 }

-- neither group nor epoch, store nor number, but of which kind and number the party is
abbrev pub said_to_strangers : Party → Hello
said_to_strangers party = record {
  identity = replicate 32 0;
  epoch = record { number = 0; image = replicate 32 0 };
  party = party;
  starts = 0;
  fresh = 0;
  store = 0;
  known = nothing_known;
}

-- its own hello, with what is known of the other party: to one that has told the same group alone
abbrev pub answer_to : Hello → Hello → Known → Hello
answer_to own other known =
    if bytes_eq other.identity own.identity then record own { known = known } else said_to_strangers own.party
