use Rattle.std.proofs.Common.{Ok, Err, subst}
use Rattle.flat_design.specs.Code.{channel_term, term_of}
use Rattle.kernel_view.specs.SimModel.Values.{on_ok, cut_to}
use Rattle.kernel_view.specs.SimModel.Residual.{settle}
use Rattle.kernel_view.specs.SimModel.Configuration.{arena}
use Rattle.kernel_view.specs.SimModel.Reading.{here, place_in, val}
use Rattle.kernel_view.specs.SimModel.Statements.{settled_in}
use Rattle.kernel_view.specs.SimModel.Channels.{channel_in, nb_write_fifo, fifo_here}
use Rattle.kernel_view.specs.KernelState.Kernel.{StandsFor}
use Rattle.kernel_view.specs.Standings.{next_here}
use Rattle.exec_channels.proofs.Trying.{evaluated, faulted}
use Rattle.exec_channels.proofs.fifos.nb_write.Goals as goal

pub returns-in-Ok-clause-does : goal.returns-in-Ok-clause-does
returns-in-Ok-clause-does c =
    let at = channel_term c.args.at.now in
    let e = term_of c.args.e.now in
    evaluated c.args.k.now c.args.p c.eval_place_at.result (λ h. place_in h at.place) c.eval_place_at.ensures
    (λ d q i r n. on_ok (val (here d q i r) e) (λ v. on_ok (channel_in (here d q i r) at n) (λ ch. Ok (nb_write_fifo d q r (here d q i r) c.args.target ch (cut_to c.args.t v) (fifo_here d ch)))))
    c.nb_write_channel.new.k (Ok tt) c.in_ok-place.place c.in_ok-place.was
    (evaluated c.args.k.now c.args.p c.eval_at.result (λ h. val h e) c.eval_at.ensures
    (λ d q i r v. on_ok (channel_in (here d q i r) at c.in_ok-place.place) (λ ch. Ok (nb_write_fifo d q r (here d q i r) c.args.target ch (cut_to c.args.t v) (fifo_here d ch))))
    c.nb_write_channel.new.k (Ok tt) c.in_ok-value.value c.in_ok-value.was
    (evaluated c.args.k.now c.args.p c.channel_at.result (λ h. channel_in h at c.in_ok-place.place) c.channel_at.ensures
    (λ d q i r ch. Ok (nb_write_fifo d q r (here d q i r) c.args.target ch (cut_to c.args.t c.in_ok-value.value) (fifo_here d ch)))
    c.nb_write_channel.new.k (Ok tt) c.in-Ok.channel c.in-Ok.is
    (λ d i h there. subst (λ v. StandsFor c.nb_write_channel.new.k (nb_write_fifo (settled_in d c.args.p i.residual) c.args.p (settle (arena d) i.residual) (next_here d c.args.p i) c.args.target c.in-Ok.channel v (fifo_here (settled_in d c.args.p i.residual) c.in-Ok.channel)))
    c.cut_to.ensures (c.nb_write_channel.ensures.steps d i h there))))

pub returns-in-Err-clause-does : goal.returns-in-Err-clause-does
returns-in-Err-clause-does c =
    let at = channel_term c.args.at.now in
    let e = term_of c.args.e.now in
    evaluated c.args.k.now c.args.p c.eval_place_at.result (λ h. place_in h at.place) c.eval_place_at.ensures
    (λ d q i r n. on_ok (val (here d q i r) e) (λ v. on_ok (channel_in (here d q i r) at n) (λ ch. Ok (nb_write_fifo d q r (here d q i r) c.args.target ch (cut_to c.args.t v) (fifo_here d ch)))))
    c.args.k.now (Err c.in-Err.fault) c.in_ok-place.place c.in_ok-place.was
    (evaluated c.args.k.now c.args.p c.eval_at.result (λ h. val h e) c.eval_at.ensures
    (λ d q i r v. on_ok (channel_in (here d q i r) at c.in_ok-place.place) (λ ch. Ok (nb_write_fifo d q r (here d q i r) c.args.target ch (cut_to c.args.t v) (fifo_here d ch))))
    c.args.k.now (Err c.in-Err.fault) c.in_ok-value.value c.in_ok-value.was
    (faulted c.args.k.now c.args.p c.channel_at.result (λ h. channel_in h at c.in_ok-place.place) c.channel_at.ensures
    (λ d q i r ch. Ok (nb_write_fifo d q r (here d q i r) c.args.target ch (cut_to c.args.t c.in_ok-value.value) (fifo_here d ch)))
    c.in-Err.fault c.in-Err.is))
