pub mod TransferVerdict
