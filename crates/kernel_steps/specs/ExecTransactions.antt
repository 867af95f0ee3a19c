pub use Rattle.exec_transactions.specs.Calling as Calling
