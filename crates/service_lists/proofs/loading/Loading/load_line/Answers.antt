use Rattle.std.proofs.Common.{◌≡◌, false, sym, subst, rules}
use Rattle.ts_packet.proofs.Cases.{if_err_more}
use Rattle.ad_lists.specs.Lists.{is_blank}
use Rattle.service_lists.specs.Lists.{IsServiceOf, BlamesLine}
use Rattle.service_lists.proofs.LoadingLemmas.{of_file, of_memory, of_adverts, both_more, one_more, one_more_described}
use Rattle.service_lists.proofs.loading.Loading.load_line.Goals as goal

pub returns-in-Err-open_input-clause-stops : goal.returns-in-Err-open_input-clause-stops
returns-in-Err-open_input-clause-stops g c =
    let line = c.args.self.now.line.items in
    let blank : is_blank line ≡ false = search rules in
    let is : IsServiceOf c.in-Ok.service.config c.in-Ok.service.adverts.now line = search rules in
    subst (λ f. BlamesLine f line) (sym c.unopened.ensures.fault) (of_file c.in-Ok.service.config c.in-Ok.service.adverts.now line blank is)

pub returns-in-Ok-load_adverts-clause-ok : goal.returns-in-Ok-load_adverts-clause-ok
returns-in-Ok-load_adverts-clause-ok g c = λ before h.
    let line = c.args.self.now.line.items in
    let blank : is_blank line ≡ false = search rules in
    let is : IsServiceOf c.in-Ok.service.config c.in-Ok.service.adverts.now line = search rules in
    both_more c.add.result (λ e d. one_more c.args.self.now.configs.items c.add.new.self.configs.items c.args.self.now.libraries.items c.add.new.self.libraries.items
    c.in-Ok.service.config c.in-Ok-load_adverts.library c.in-Ok.service.adverts.now line before blank is c.in-Ok-load_adverts.ensures.loaded e d h)
    c.add.ensures.configs c.add.ensures.libraries

pub returns-in-Ok-load_adverts-clause-stops : goal.returns-in-Ok-load_adverts-clause-stops
returns-in-Ok-load_adverts-clause-stops g c =
    let line = c.args.self.now.line.items in
    let blank : is_blank line ≡ false = search rules in
    let is : IsServiceOf c.in-Ok.service.config c.in-Ok.service.adverts.now line = search rules in
    if_err_more c.add.result (λ u e. subst (λ f. BlamesLine f line) (sym e) (of_memory c.in-Ok.service.config c.in-Ok.service.adverts.now line blank is)) c.add.ensures.fault

pub returns-clause-stops : goal.returns-clause-stops
returns-clause-stops g c =
    let line = c.args.self.now.line.items in
    let blank : is_blank line ≡ false = search rules in
    let is : IsServiceOf c.in-Ok.service.config c.in-Ok.service.adverts.now line = search rules in
    of_adverts c.in-Err-load_adverts.unloaded.fault c.in-Ok.service.config c.in-Ok.service.adverts.now line blank is c.in-Err-load_adverts.ensures.fault

pub returns-in-Ok-load_adverts-clause-described : goal.returns-in-Ok-load_adverts-clause-described
returns-in-Ok-load_adverts-clause-described g c = λ h.
    both_more c.add.result (λ many e. one_more_described c.args.self.now.files.items c.add.new.self.files.items c.in-Ok-load_adverts.streams.items c.args.self.now.libraries.items
    c.add.new.self.libraries.items c.in-Ok-load_adverts.library many c.in-Ok-load_adverts.ensures.described e h) c.add.ensures.files c.add.ensures.libraries
