mod Balances
