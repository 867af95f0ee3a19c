pub use Rattle.traffic_file.proofs.Runnable as Runnable
